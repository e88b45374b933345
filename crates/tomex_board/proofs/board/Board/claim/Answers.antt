use Rattle.std.proofs.lemmas.Grind.{common_steps}
use Rattle.std.proofs.Common.{rules, arith}
use Rattle.tomex_board.proofs.Claims.{claims}
use Rattle.tomex_board.proofs.board.Board.claim.Goals as goal

pub compare_exchange-requires : goal.compare_exchange-requires
compare_exchange-requires g c = let q = c.self.invariant.2 in let i = c.requires.row in (
  search rules,
  omega arith,
  claims g.J.Plan.costs g.J.Plan.cycles _ _ _ c.seat.inside.inner.me c.seat.invariant.1
      c.requires.row,
)

pub returns-clause-taken : goal.returns-clause-taken
returns-clause-taken g c = search rules fits 100

pub invariant_of-seat : goal.invariant_of-seat
invariant_of-seat = grind (arith, common_steps)
