use Rattle.std.proofs.Common.{rules, arith, ap, sym, subst, ◌∙◌, inl, refl}
use Rattle.tomex_board.specs.Views.{Has, HasTwo, least_of}
use Rattle.tomex_board.specs.Steps.{Seated}
use Rattle.tomex_board.specs.Known.{Known}
use Rattle.tomex_board.specs.declared.view.View.{View}
use Rattle.tomex_board.proofs.Lists.{two_left}
use Rattle.tomex_board.proofs.Shares.{splits}
use Rattle.tomex_board.proofs.board.Board.split.Goals as goal

pub split_seat-inner-requires : goal.split_seat-inner-requires
split_seat-inner-requires g c = let q = c.self.invariant.2 in let J = g.J.Plan in
    let e = ap (λ (k : Known). k.view) c.seat.view_is in let v = c.seat.inside.inner.me.0 in
    let t : HasTwo v.share = subst (λ (u : View). HasTwo u.share) (sym e) c.requires.two in
    (search rules, omega arith, splits J.costs J.cycles _ v t.0 t.1 t.2 t.3 t.4)

pub invariant_of-seat : goal.invariant_of-seat
invariant_of-seat g c = let e = c.split_seat-inner.ensures.2 in let q = ap (λ (k : Known). k.view) c.seat.view_is in
    let v = c.seat.inside.inner.me.0 in
    let t : HasTwo v.share = subst (λ (u : View). HasTwo u.share) (sym q) c.requires.two in
    let z = two_left v.share t.0 t.1 t.2 t.3 t.4 in
    (ap (λ (m : Seated). m.1) e ∙ c.seat.invariant.0, (z.0, subst (λ (m : Seated). Has m.0.share z.0) (sym e) z.1))

pub invariant_of-result : goal.invariant_of-result
invariant_of-result g c = let e = c.split_seat-inner.ensures.4 in let v = c.seat.inside.inner.me.0 in (
  ap (λ (m : Seated). m.1) e,
  (
    least_of v.share,
    subst (λ (m : Seated). Has m.0.share (least_of v.share)) (sym e)
        (inl refl),
  ),
)
