use Rattle.std.proofs.lemmas.Grind.{common_steps}
use Rattle.std.proofs.Common.{rules, arith, subst, sym, ℕ, ◌<◌, ◌^◌}
use Rattle.std.proofs.lemmas.List.Elements.{All-get_or}
use Rattle.tomex_board.specs.declared.mark.Mark.TheVariants.{Finished}
use Rattle.tomex_board.specs.declared.view.View.{View}
use Rattle.tomex_board.specs.Views.{Grows}
use Rattle.tomex_board.proofs.Closes.{finishes, closing_grows}
use Rattle.tomex_board.proofs.board.Board.mark_finished.Goals as goal

pub mark_word-finished-requires : goal.mark_word-finished-requires
mark_word-finished-requires g c = let J = g.J.Plan in let i = c.requires.row in let same = c.self.invariant.0.2 in
    let y = c.requires.cycles in
    let low = All-get_or (λ (c : ℕ). c < 2 ^ 38) J.cycles c.args.i 0 (omega arith) c.self.invariant.0.3 in
    record { fits = omega arith }

pub compare_exchange-requires : goal.compare_exchange-requires
compare_exchange-requires g c = let J = g.J.Plan in let q = c.self.invariant.2 in let i = c.requires.row in (
  search rules,
  omega arith,
  finishes J.costs J.cycles _ _ c.args.i c.args.cycles _ c.seat.inside.inner.me
      (search rules) c.requires.row c.requires.cycles c.mark_word-finished.ensures,
)

pub returns-clause-grown : goal.returns-clause-grown
returns-clause-grown g c = subst (λ (w : View). Grows c.args.seat.now.view w) (sym (search rules))
    (closing_grows c.args.i (Finished c.args.cycles) c.args.seat.now.view)

pub invariant_of-seat : goal.invariant_of-seat
invariant_of-seat = grind (arith, common_steps)
