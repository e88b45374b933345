-- The rows of a study, cut into as many stretches of neighbours as there are workers.
use Rattle.std.specs.Prelude.{◌≡◌, ℕ, ◌+◌, ◌*◌, ◌/◌, ◌≤◌, List, length, map, take}
use Rattle.std.specs.List.{range_with_len, slice_range}
use Rattle.tomex_study.specs.Cycles.{totals_on}
use Rattle.tomex_study.specs.Study.{DesignSpace}
use Rattle.tomex_survey.specs.declared.stretch.Stretch.{Stretch}

-- the rows of the k-th worker, given the numbers of rows and of workers
abbrev pub stretch_of : ℕ → ℕ → ℕ → Stretch
stretch_of rows workers k =
    record { worker = k; first = k * rows / workers; end = (k + 1) * rows / workers }

-- those of each worker, in their order
unfoldable pub stretches_of : ℕ → ℕ → List Stretch
stretches_of rows workers = map (stretch_of rows workers) (range_with_len 0 workers)

-- the items of a list that are in a stretch
abbrev pub in_stretch : {X : Type 0} → List X → Stretch → List X
in_stretch xs stretch = slice_range xs stretch.first stretch.end

-- it ends after it begins, and within this number of rows
pub record IsWithin (rows : ℕ) (stretch : Stretch) : Type 0 where
  pub order : stretch.first ≤ stretch.end
  pub within : stretch.end ≤ rows

-- for each row of a stretch the totals of the study's programs, in their order
abbrev pub AreTotalsIn : DesignSpace → Stretch → List (List ℕ) → Type 0
AreTotalsIn s stretch totals =
    map (take (length s.programs)) totals ≡ map (totals_on s.programs) (in_stretch s.rows stretch)
