-- One row more; after the last one it is the best of all.
use Rattle.std.proofs.Common.{◌≡◌, ◌∙◌, ap, arith, ℕ, length, map}
use Rattle.std.specs.List.{best_of, range_with_len}
use Rattle.tomex_compare.specs.ProgramTable.{best_row, cycles_on, is_better}
use Rattle.tomex_compare.proofs.Steps.{is_less, is_no_less, keeps, takes}
use Rattle.tomex_compare.proofs.extremes.best_row.Goals as goal
use Rattle.tomex_compare.proofs.extremes.best_row.Goals.{then-here-best, else-here-best}

pub loop-row-preserved : goal.loop-row-preserved
loop-row-preserved g c =
    let s = c.args.surveyed.now in
    let p = c.args.build.now.program.now in
    let last = takes is_better (cycles_on s p 0) (cycles_on s p) c.loop-row.row c.loop-row.best c.cycles_on-here.result
    c.loop-row.invariant c.cycles_on-here.ensures in
    let first = keeps is_better (cycles_on s p 0) (cycles_on s p) c.loop-row.row c.loop-row.best c.cycles_on-here.result
    c.loop-row.invariant c.cycles_on-here.ensures in
    let m = c.cycles_on-here.result.cycles in
    let n = c.loop-row.best.cycles in
    elim c.if-here-best.branch [
      | then-here-best w ↦ rw w.best-is (last (is_less m n w.if-here-best.true))
      | else-here-best w ↦ rw w.best-is (first (is_no_less m n w.if-here-best.false))
    ]

pub returns : goal.returns
unfolding best_row
returns g c =
    let s = c.args.surveyed.now in
    let p = c.args.build.now.program.now in
    let all : c.loop-row.row ≡ length s.rows =
    omega (arith, c.loop-row-test.false, c.loop-row.auto.row-end, c.rows-row-end.ensures.count) in
    c.loop-row.invariant
    ∙ ap (λ (n : ℕ). best_of is_better (cycles_on s p 0) (map (cycles_on s p) (range_with_len 0 n))) all
