-- The rows of a study, with the cycles of two of its programs: they have ratios and different numbers.
use Rattle.std.proofs.Common.{◌≡◌, arith, refl, ℕ, zero, suc, ◌+◌, ◌<◌, ◌≤◌, All, length}
use Rattle.std.proofs.Common.{map, ◌==◌}
use Rattle.std.specs.List.{AllByRecursion, Contains, range_with_len}
use Rattle.std.proofs.lemmas.Bool.{ne_eqb}
use Rattle.std.proofs.lemmas.List.Elements.{All-contains, All-from_recursion}
use Rattle.std.proofs.lemmas.List.Sorted.{All-permutation}
use Rattle.std.proofs.lemmas.Map.Keys.{IsDistinct-from_apart}
use Rattle.std.proofs.lemmas.Option.{get_or_from_slice_get, slice_get_within}
use Rattle.tomex_config.specs.Configuration.{plain}
use Rattle.tomex_study.specs.Cycles.{total_at}
use Rattle.tomex_study.specs.Program.{IsProgram, Workload}
use Rattle.tomex_study.specs.Study.{DesignSpace, IsStudy, config_at}
use Rattle.tomex_compare.specs.Builds.{IsBuild}
use Rattle.tomex_compare.specs.Pairs.{AreComparable, by_ratio, pair_at, pairs_of, row_numbers}
use Rattle.tomex_compare.specs.declared.pairs.Pair.{Pair}
use Rattle.tomex_compare.proofs.ByRatio.{HasRatio, IsApart, by_ratio_moves}
use Rattle.tomex_study.proofs.SomeCycles.{some_cycles}
use Rattle.tomex_compare.proofs.Sorting.{Rises, rises_pairs}

-- what holds of each number of a range
pub all_in_range : {X : Type 0} (P : X → Type 0) (f : ℕ → X) (a n : ℕ) → ((k : ℕ) → a ≤ k → k < a + n → P (f k))
    → AllByRecursion P (map f (range_with_len a n))
all_in_range P f a zero each = tt
all_in_range P f a (suc n) each = (
  each a (omega arith) (omega arith),
  all_in_range P f (a + 1) n (λ k l m. each k (omega arith) (omega arith)),
)

rows_rise : (f : ℕ → Pair) → ((k : ℕ) → (f k).row ≡ k) → (a n : ℕ) → Rises IsApart (map f (range_with_len a n))
rows_rise f own a zero = tt
rows_rise f own a (suc n) = (
  all_in_range (IsApart (f a)) f (a + 1) n (λ k l m e. let i = own a in let j = own k in absurd (omega arith)),
  rows_rise f own (a + 1) n,
)

-- a program takes a cycle at least on each row
pub some_on_row : (s : DesignSpace) (p : Workload) (row : ℕ) → IsStudy s → Contains s.programs p → row < length s.rows
    → 1 ≤ total_at s p row
some_on_row s p row is one within =
    some_cycles (config_at s row) p (is.limits row plain within) (All-contains IsProgram s.programs p is.ends one)

pub there : (s : DesignSpace) (place : ℕ) (p : Workload) → IsBuild s place p → Contains s.programs p
there s place p at = (place, slice_get_within s.programs place p at, get_or_from_slice_get s.programs place p p at)

pub comparable : (s : DesignSpace) (old new : Workload) → IsStudy s → Contains s.programs old
    → AreComparable (map (pair_at s old new) (row_numbers s))
comparable s old new is one = record {
  some = All-from_recursion HasRatio _ (all_in_range HasRatio (pair_at s old new) 0 (length s.rows)
      (λ k l m. some_on_row s old k is one (omega (arith, m))));
  numbered = IsDistinct-from_apart (λ a b. a.row == b.row) (map (pair_at s old new) (row_numbers s))
      (λ j k d l m. ne_eqb _ _ (rises_pairs IsApart _ (rows_rise (pair_at s old new) (λ k. refl) 0 (length s.rows))
      j k d l m));
}

-- each is a row of the study
pub pairs_within : (s : DesignSpace) (old new : Workload) → All (λ p. p.row < length s.rows) (pairs_of s old new)
unfolding pairs_of
pairs_within s old new =
    let unsorted = map (pair_at s old new) (row_numbers s) in
    All-permutation (λ (p : Pair). p.row < length s.rows) unsorted (by_ratio unsorted) (by_ratio_moves unsorted)
    (All-from_recursion (λ (p : Pair). p.row < length s.rows) unsorted
    (all_in_range (λ (p : Pair). p.row < length s.rows) (pair_at s old new) 0 (length s.rows)
    (λ k l m. omega (arith, m))))
