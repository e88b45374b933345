use Rattle.std.proofs.Common.{rules, sym, ◌∙◌, ◌<◌, ◌^◌, subst, arith, ap, ℕ, get_or}
use Rattle.std.proofs.lemmas.List.Elements.{All-get_or}
use Rattle.tomex_board.specs.declared.mark.Mark.TheVariants.{Finished}
use Rattle.tomex_board.specs.declared.view.View.{View}
use Rattle.tomex_board.specs.Words.{band_word}
use Rattle.tomex_board.specs.Views.{Has}
use Rattle.tomex_board.specs.Known.{Known}
use Rattle.tomex_board.proofs.Bands.{publishes}
use Rattle.tomex_board.proofs.board.Board.publish.Goals as goal

pub band_word-word-requires : goal.band_word-word-requires
band_word-word-requires g c = let J = g.J.Plan in let i = c.requires.row in let few = c.self.invariant.0.1 in
    let same = c.self.invariant.0.2 in let y = c.requires.cycles in
    let low = All-get_or (λ (c : ℕ). c < 2 ^ 38) J.cycles c.args.i 0 (omega arith) c.self.invariant.0.3 in
    record { fits = omega arith }

pub fetch_min-requires : goal.fetch_min-requires
fetch_min-requires g c = let J = g.J.Plan in let n = c.self.invariant.1 in let q = c.self.invariant.2 in
    let m = c.self.invariant.8 in let i = c.requires.row in let is = c.requires.cycles in let k = c.requires.band.0 in (
      search rules,
      omega arith,
      rw n (publishes J.costs J.cycles _ _ c.args.i c.args.k _ c.seat.inside.inner.me (omega arith) i
          (subst (λ (v : View). Has v.marks (c.args.i, Finished (get_or J.cycles c.args.i 0)))
          (sym (ap (λ (k : Known). k.view) c.seat.view_is))
          (subst (λ (y : ℕ). Has c.args.seat.now.view.marks (c.args.i, Finished y)) is c.requires.noted))
          c.requires.band (c.band_word-word.ensures ∙ ap (λ (y : ℕ). band_word y c.args.i) is)),
    )

pub invariant_of-seat : goal.invariant_of-seat
invariant_of-seat g c = let t = c.fetch_min.ensures.2 in let x = c.seat.invariant.1 in
    (t.slots ∙ c.seat.invariant.0, (x.0, subst (λ (v : View). Has v.share x.0) (sym t.view) x.1))

pub returns-clause-grown : goal.returns-clause-grown
returns-clause-grown = grind arith
