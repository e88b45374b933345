use Rattle.tomex_board.specs.Views.{Has, Grows, joined_view}
use Rattle.tomex_board.specs.Steps.{Seated}
use Rattle.tomex_board.specs.declared.view.View.{View}
use Rattle.tomex_board.specs.Known.{Known}
use Rattle.std.proofs.Common.{rules, arith, ◌≡◌, ap, sym, ◌∙◌, subst}
use Rattle.tomex_board.proofs.Shares.{joins}
use Rattle.tomex_board.proofs.Lists.{left_of}
use Rattle.tomex_board.proofs.Joining.{first_grows, second_grows}
use Rattle.tomex_board.proofs.board.Board.join.Goals as goal

pub join_seat-requires : goal.join_seat-requires
join_seat-requires g c = let q = c.self.invariant.2 in let J = g.J.Plan in
    let e = ap (λ (k : Known). k.view.hand) c.second.view_is in (
      search rules,
      search rules,
      c.second.invariant.0,
      omega arith,
      joins J.costs J.cycles _ _ c.first.inside.inner.me.0
          c.second.inside.inner.me.0 (e ∙ c.requires.empty) c.first.invariant.1,
    )

pub invariant_of-first : goal.invariant_of-first
invariant_of-first g c = let e = c.join_seat.ensures.2 in let v = c.first.inside.inner.me.0 in
    let t = c.first.invariant.1 in (
      ap (λ (m : Seated). m.1) e ∙ c.first.invariant.0,
      (
        t.0,
        subst (λ (m : Seated). Has m.0.share t.0) (sym e)
            (left_of v.share c.second.inside.inner.me.0.share t.0 t.1),
      ),
    )

pub returns-clause-grown : goal.returns-clause-grown
returns-clause-grown g c = let v = c.first.inside.inner.me.0 in let w = c.second.inside.inner.me.0 in
    let is : joined_view v w ≡ c.join_seat.new.seat.me.0 = sym (ap (λ (m : Seated). m.0) c.join_seat.ensures.2) in
    rw (← ap (λ (k : Known). k.view) c.first.view_is, ← ap (λ (k : Known). k.view) c.second.view_is)
    (subst (λ (u : View). Grows v u × Grows w u) is
    (first_grows v w, second_grows v w (ap (λ (k : Known). k.view.hand) c.second.view_is ∙ c.requires.empty)))
