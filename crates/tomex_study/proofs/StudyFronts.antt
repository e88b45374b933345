-- The rows of a study and of its front, by their numbers.
use Rattle.std.proofs.Common.{◌≡◌, ℕ, ◌<◌, ◌∙◌, ap, subst, sym, length, All, List}
use Rattle.std.specs.List.{Contains}
use Rattle.std.proofs.lemmas.List.{length-map}
use Rattle.tomex_pareto.specs.declared.front_row.FrontRow.{FrontRow}
use Rattle.tomex_study.specs.Study.{DesignSpace, IsStudy}
use Rattle.tomex_study.specs.Cycles.{cycles_of}
use Rattle.tomex_study.specs.StudyFront.{all_rows, front_of_study}
use Rattle.tomex_pareto.specs.Front.{front_of}
use Rattle.tomex_pareto.specs.Pareto.{AreNumbered}
use Rattle.tomex_pareto.proofs.Pareto.{Has, IsFree, among, front_is}
use Rattle.tomex_pareto.proofs.Rows.{front_within, rows_apart, rows_numbered}

-- the rows of the front are rows of the study
pub study_rows : (s : DesignSpace) → IsStudy s → All (λ r. r.row < length s.rows) (front_of_study s)
unfolding front_of_study
study_rows s is =
    let same : length s.costs ≡ length s.rows = ap length is.costs ∙ length-map _ _ in
    subst (λ (n : ℕ). All (λ (r : FrontRow). r.row < n) (front_of_study s)) same (front_within s.costs (cycles_of s))

-- they are of all rows, and none of these dominates one of them
pub front_free : (s : DesignSpace) (r : FrontRow) → Contains (front_of_study s) r
    → Has (all_rows s) r × IsFree (all_rows s) r
unfolding front_of_study
front_free s r one = (front_is (all_rows s) (rows_apart 0 s.costs (cycles_of s))).only r
    (among (front_of (all_rows s)) r one)

-- a study's rows have different numbers
pub rows_are_numbered : (s : DesignSpace) {rows : List FrontRow} → rows ≡ all_rows s → AreNumbered rows
rows_are_numbered s are = subst AreNumbered (sym are) (rows_numbered s.costs (cycles_of s))

-- and their front is the study's
pub front_is_of_study : (s : DesignSpace) {rows front : List FrontRow} → rows ≡ all_rows s → front ≡ front_of rows
    → front ≡ front_of_study s
unfolding front_of_study
front_is_of_study s are is = is ∙ ap front_of are
