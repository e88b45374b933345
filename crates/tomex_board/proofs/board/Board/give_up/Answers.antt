use Rattle.std.proofs.lemmas.Grind.{common_steps}
use Rattle.std.proofs.Common.{rules, arith, subst, sym}
use Rattle.tomex_board.specs.declared.mark.Mark.TheVariants.{Dropped}
use Rattle.tomex_board.specs.declared.view.View.{View}
use Rattle.tomex_board.specs.Views.{Grows}
use Rattle.tomex_board.proofs.Closes.{gives_up, closing_grows}
use Rattle.tomex_board.proofs.board.Board.give_up.Goals as goal

pub mark_word-dropped-requires : goal.mark_word-dropped-requires
mark_word-dropped-requires g c = let few = c.self.invariant.0.1 in let r = c.requires.bound.row in
    record { fits = omega arith }

pub compare_exchange-requires : goal.compare_exchange-requires
compare_exchange-requires g c = let J = g.J.Plan in let q = c.self.invariant.2 in let i = c.requires.row in (
  search rules,
  omega arith,
  gives_up J.costs J.cycles _ _ c.args.i c.args.reached _ c.args.bound
      c.seat.inside.inner.me (search rules) c.requires.row (search rules) c.requires.slower c.requires.reached
      c.mark_word-dropped.ensures,
)

pub returns-clause-grown : goal.returns-clause-grown
returns-clause-grown g c = subst (λ (w : View). Grows c.args.seat.now.view w) (sym (search rules))
    (closing_grows c.args.i (Dropped c.args.bound.row) c.args.seat.now.view)

pub invariant_of-seat : goal.invariant_of-seat
invariant_of-seat = grind (arith, common_steps)
