-- Laws of the weights for which a row is on the front.
use Rattle.std.specs.Prelude.{◌≡◌, ℕ, suc, ◌*◌, ◌<◌, ◌≤◌, ◌⊎◌, true, false, length}
use Rattle.std.specs.List.{Contains}
use Rattle.tomex_pareto.specs.Front.{is_on}
use Rattle.tomex_pareto.specs.declared.front_row.FrontRow.{FrontRow}
use Rattle.tomex_pareto.specs.Spans.{holds}
use Rattle.tomex_study.specs.Study.{DesignSpace, IsStudy}
use Rattle.tomex_study.specs.StudyFront.{all_rows, front_of_study}
use Rattle.tomex_weights.specs.Spans.{greatest_weight}
use Rattle.tomex_weights.specs.Listed.{is_listed}
use Rattle.tomex_weights.specs.Programs.{is_relevant}
use Rattle.tomex_weights.specs.Reweighted.{reweighted, weight_at, with_whole}
use Rattle.tomex_weights.specs.Spans.{span_of}

-- with one weight replaced, a row is on the front if and only if the weight is in the row's span
abbrev pub IsOnExactlyWithin : Type 0
IsOnExactlyWithin = (s : DesignSpace) (place q : ℕ) (r : FrontRow) → IsStudy s → place < length s.programs → 1 ≤ q
    → q ≤ greatest_weight → Contains (all_rows s) r
    → is_on (front_of_study (reweighted s place q)) r.row ≡ holds (span_of s place r) q

-- a whole weight is that of a study's file
abbrev pub HoldsWhole : Type 0
HoldsWhole = (s : DesignSpace) (place w : ℕ) (r : FrontRow) → IsStudy s → place < length s.programs
    → 1 ≤ w → w ≤ 1000 → Contains (all_rows s) r
    → holds (span_of s place r) (100 * w) ≡ is_on (front_of_study (with_whole s place w)) r.row

-- the stated weight is in it if and only if the row is on the front
abbrev pub HoldsStated : Type 0
HoldsStated = (s : DesignSpace) (place : ℕ) (r : FrontRow) → IsStudy s → place < length s.programs
    → Contains (all_rows s) r → holds (span_of s place r) (100 * weight_at s place) ≡ is_on (front_of_study s) r.row

-- a row of the front is on it at any weight of a program that takes equally many cycles on all rows
abbrev pub HoldsAllIfIrrelevant : Type 0
HoldsAllIfIrrelevant = (s : DesignSpace) (place : ℕ) (r : FrontRow) → IsStudy s → place < length s.programs
    → Contains (all_rows s) r → is_on (front_of_study s) r.row ≡ true → is_relevant s place ≡ false
    → span_of s place r ≡ record { first = 1; end = suc greatest_weight }

-- a row is on the front with some program's weight replaced
pub record ComesToFront (s : DesignSpace) (r : FrontRow) : Type 0 where
  pub place : ℕ
  pub q : ℕ
  pub program : place < length s.programs
  pub some : 1 ≤ q
  pub few : q ≤ greatest_weight
  pub on : is_on (front_of_study (reweighted s place q)) r.row ≡ true

-- each such row is listed
abbrev pub ListsAllThatCome : Type 0
ListsAllThatCome = (s : DesignSpace) (r : FrontRow) → IsStudy s → Contains (all_rows s) r → ComesToFront s r
    → is_listed s r ≡ true

-- and each listed one is such a row, or on the front as stated
abbrev pub ListsNoOthers : Type 0
ListsNoOthers = (s : DesignSpace) (r : FrontRow) → IsStudy s → Contains (all_rows s) r → is_listed s r ≡ true
    → (is_on (front_of_study s) r.row ≡ true) ⊎ ComesToFront s r
