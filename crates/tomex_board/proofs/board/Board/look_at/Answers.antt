use Rattle.std.proofs.lemmas.Grind.{common_steps}
use Rattle.std.proofs.Common.{rules, ◌+◌, arith, ap, ℕ}
use Rattle.tomex_board.specs.Known.{Known}
use Rattle.tomex_board.proofs.Bands.{looks}
use Rattle.tomex_board.proofs.Looks.{looks_at}
use Rattle.tomex_board.proofs.board.Board.look_at.Goals as goal

pub load-requires : goal.load-requires
load-requires g c = let J = g.J.Plan in let n = c.self.invariant.1 in let q = c.self.invariant.2 in
    let few = c.self.invariant.0.1 in let m = c.self.invariant.8 in let k = c.requires.band in
    (search rules, omega arith, rw n (looks J.costs J.cycles _ _ c.args.k c.seat.inside.inner.me (omega arith) k few))

pub returns-clause-seen : goal.returns-clause-seen
returns-clause-seen g c = let J = g.J.Plan in rw (← ap (λ (k : Known). k.view) c.seat.view_is)
    (looks_at J.costs J.cycles c.self.inside.table.shared.table_id.slots c.args.k (c.self.inside.rows + c.args.k)
    c.load.result c.seat.inside.inner.me c.load.new.seat.me c.self.invariant.0.1
    (ap (λ (n : ℕ). n + c.args.k) c.self.invariant.1) c.load.ensures.2)

pub invariant_of-seat : goal.invariant_of-seat
invariant_of-seat = grind (arith, common_steps)
