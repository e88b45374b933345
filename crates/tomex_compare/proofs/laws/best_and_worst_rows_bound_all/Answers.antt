-- By all rows, one after the other.
use Rattle.std.proofs.Common.{length}
use Rattle.tomex_study.specs.Cycles.{total_at}
use Rattle.tomex_compare.specs.ProgramTable.{best_row, worst_row}
use Rattle.tomex_compare.proofs.BestAndWorst.{is_best, is_worst}
use Rattle.tomex_compare.proofs.laws.best_and_worst_rows_bound_all.Goals as goal

pub returns-clause-between : goal.returns-clause-between
unfolding best_row worst_row
returns-clause-between c s p row low =
    let b = is_best (total_at s p) (length s.rows) in
    let w = is_worst (total_at s p) (length s.rows) in
    record {
      least = b.least row low;
      first = b.first row low;
      greatest = w.greatest row low;
      last = w.last row low;
    }

pub returns-clause-rows : goal.returns-clause-rows
unfolding best_row worst_row
returns-clause-rows c s p some =
    let b = is_best (total_at s p) (length s.rows) in
    let w = is_worst (total_at s p) (length s.rows) in
    (record { within = b.within some; own = b.own }, record { within = w.within some; own = w.own })
