-- All weights of a study are wrong at once, each by a factor of its own, in hundredths: the cycles of rows then, and
-- which rows of the front stay on it.
use Rattle.std.specs.Prelude.{◌≡◌, ◌+◌, ◌*◌, ◌<◌, ◌≤◌, ℕ, Bool, true, false, map, sum_by}
use Rattle.std.specs.List.{Contains}
use Rattle.tomex_pareto.specs.Front.{front_of, is_on}
use Rattle.tomex_pareto.specs.declared.front_row.FrontRow.{FrontRow}
use Rattle.tomex_pareto.specs.Percent.{AreWithin}
use Rattle.tomex_study.specs.Cycles.{total_at}
use Rattle.tomex_study.specs.Program.{Workload}
use Rattle.tomex_study.specs.Study.{DesignSpace, IsStudy}
use Rattle.tomex_study.specs.StudyFront.{all_rows, front_of_study}
use Rattle.tomex_weights.specs.Percent.{percent_of}

-- a factor for each program
abbrev pub Factors : Type 0
Factors = Workload → ℕ

-- a row at these factors: its cycles, in hundredths, are each program's, times its weight and factor
abbrev pub row_times : Factors → DesignSpace → FrontRow → FrontRow
row_times factors s r = record {
  row = r.row;
  cost = r.cost;
  cycles = sum_by (λ p. factors p * (p.weight * total_at s p r.row)) s.programs;
}

-- the row is on the front of all rows at these factors
abbrev pub is_on_at : Factors → DesignSpace → FrontRow → Bool
is_on_at factors s r = is_on (front_of (map (row_times factors s) (all_rows s))) r.row

-- if each factor is 100, a row has its stated cycles
abbrev pub IsStatedAtHundred : Type 0
IsStatedAtHundred = (s : DesignSpace) (r : FrontRow) → IsStudy s → Contains (all_rows s) r
    → (row_times (λ p. 100) s r).cycles ≡ 100 * r.cycles

-- a row of the front stays on it if all weights are wrong by at most its percentage
abbrev pub StaysWithinPercent : Type 0
StaysWithinPercent = (s : DesignSpace) (factors : Factors) (r : FrontRow) → IsStudy s → Contains (front_of_study s) r
    → AreWithin (percent_of s r) factors → is_on_at factors s r ≡ true

-- and at any weights if that is 100
abbrev pub StaysIfHundred : Type 0
StaysIfHundred = (s : DesignSpace) (factors : Factors) (r : FrontRow) → IsStudy s → Contains (front_of_study s) r
    → percent_of s r ≡ 100 → is_on_at factors s r ≡ true

-- if it is less, then with one percent more there are weights at which the row is off the front
pub record LeavesAt (s : DesignSpace) (r : FrontRow) (percent : ℕ) : Type 0 where
  pub factors : Factors
  pub within : AreWithin percent factors
  pub off : is_on_at factors s r ≡ false

abbrev pub LeavesBeyondPercent : Type 0
LeavesBeyondPercent = (s : DesignSpace) (r : FrontRow) → IsStudy s → Contains (front_of_study s) r
    → percent_of s r < 100 → LeavesAt s r (percent_of s r + 1)

-- each row that costs less takes more cycles for each program, and each that costs as much no fewer
pub record IsBestForEach (s : DesignSpace) (r : FrontRow) : Type 0 where
  pub cheaper : (j : FrontRow) (p : Workload) → Contains (all_rows s) j → Contains s.programs p → j.cost < r.cost
      → total_at s p r.row < total_at s p j.row
  pub equal : (j : FrontRow) (p : Workload) → Contains (all_rows s) j → Contains s.programs p → j.cost ≡ r.cost
      → total_at s p r.row ≤ total_at s p j.row

-- such a row is on the front whatever the weights
abbrev pub StaysAtAnyMix : Type 0
StaysAtAnyMix = (s : DesignSpace) (factors : Factors) (r : FrontRow) → IsStudy s → Contains (all_rows s) r
    → IsBestForEach s r → ((p : Workload) → Contains s.programs p → 1 ≤ factors p) → is_on_at factors s r ≡ true
