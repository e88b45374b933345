-- One row more; after the last one it is the worst of all.
use Rattle.std.proofs.Common.{◌≡◌, ◌∙◌, ap, arith, ℕ, length, map}
use Rattle.std.specs.List.{best_of, range_with_len}
use Rattle.tomex_compare.specs.ProgramTable.{worst_row, cycles_on, is_worse}
use Rattle.tomex_compare.proofs.Steps.{is_more, is_no_more, keeps, takes}
use Rattle.tomex_compare.proofs.extremes.worst_row.Goals as goal
use Rattle.tomex_compare.proofs.extremes.worst_row.Goals.{then-worst-here, else-worst-here}

pub loop-row-preserved : goal.loop-row-preserved
loop-row-preserved g c =
    let s = c.args.surveyed.now in
    let p = c.args.build.now.program.now in
    let last = takes is_worse (cycles_on s p 0) (cycles_on s p) c.loop-row.row c.loop-row.worst c.cycles_on-here.result
    c.loop-row.invariant c.cycles_on-here.ensures in
    let first = keeps is_worse (cycles_on s p 0) (cycles_on s p) c.loop-row.row c.loop-row.worst c.cycles_on-here.result
    c.loop-row.invariant c.cycles_on-here.ensures in
    let m = c.loop-row.worst.cycles in
    let n = c.cycles_on-here.result.cycles in
    elim c.if-worst-here.branch [
      | then-worst-here w ↦ rw w.worst-is (last (is_no_more m n w.if-worst-here.true))
      | else-worst-here w ↦ rw w.worst-is (first (is_more m n w.if-worst-here.false))
    ]

pub returns : goal.returns
unfolding worst_row
returns g c =
    let s = c.args.surveyed.now in
    let p = c.args.build.now.program.now in
    let all : c.loop-row.row ≡ length s.rows =
    omega (arith, c.loop-row-test.false, c.loop-row.auto.row-end, c.rows-row-end.ensures.count) in
    c.loop-row.invariant
    ∙ ap (λ (n : ℕ). best_of is_worse (cycles_on s p 0) (map (cycles_on s p) (range_with_len 0 n))) all
