-- The pair of one row more.
use Rattle.std.proofs.Common.{ap₂, ℕ}
use Rattle.tomex_compare.specs.Pairs.{pair_at}
use Rattle.tomex_compare.specs.declared.pairs.Pair.{Pair}
use Rattle.tomex_compare.proofs.Steps.{number_pushed}
use Rattle.tomex_compare.proofs.pairs.unsorted.Goals as goal

pub loop-row-preserved : goal.loop-row-preserved
loop-row-preserved g c =
    let row = c.loop-row.row in
    let own = ap₂ (λ (m n : ℕ). let p : Pair = record { row = row; old = m; new = n } in p) c.total_on.ensures
    c.total_on-in-loop-row.ensures in
    number_pushed (pair_at c.args.surveyed.now c.args.old.now.program.now c.args.new.now.program.now) row _ _ _
    c.loop-row.invariant own c.in_ok-push.ensures.items
