-- From which address to which a loop's steps are: those in its visits, without those of calls.
use Rattle.std.specs.Prelude.{ℕ, zero, suc, ◌≡◌, ◌<◌, ◌≤◌, ◌==◌, min, max, nat_eq, Bool, true, false, List, [], ◌∷◌}
use Rattle.std.specs.Prelude.{Option, Some, None, length, slice_index, slice_index_or, slice_set}
use Rattle.std.specs.List.{list_any}
use Rattle.std.specs.Option.{option_eq}
use Rattle.tomex_loop_sums.specs.declared.extents.Extent.{Extent}

-- a visit, the one around it in the same call, and so on. Each has a lower number than the one before, so there are no
-- more than n if the first is below n
abbrev pub visits_around : List (Option ℕ) → ℕ → Option ℕ → List ℕ
visits_around within n None = []
visits_around within zero (Some v) = []
visits_around within (suc n) (Some v) = v ∷ visits_around within n (slice_index_or within v None)

-- the visits that a step is in
abbrev pub visits_at : (within here : List (Option ℕ)) → ℕ → List ℕ
visits_at within here step = visits_around within (length within) (slice_index_or here step None)

abbrev pub is_in_visit : (within here : List (Option ℕ)) → ℕ → ℕ → Bool
is_in_visit within here v step = list_any (λ u. u == v) (visits_at within here step)

-- a step is in some visit of loop n
abbrev pub is_in_visit_of : List ℕ → (within here : List (Option ℕ)) → ℕ → ℕ → Bool
is_in_visit_of loops within here n step = list_any (λ v. slice_index loops v == n) (visits_at within here step)

-- one of the steps that pass a test has this address
pub record HasAddress (passes : ℕ → Bool) (addresses : List ℕ) (address : ℕ) : Type 0 where
  pub step : ℕ
  pub before : step < length addresses
  pub is : passes step ≡ true
  pub at : slice_index addresses step ≡ address

-- the least address of the steps that pass a test, and the greatest
pub record IsFromTo (passes : ℕ → Bool) (addresses : List ℕ) (e : Extent) : Type 0 where
  pub first : HasAddress passes addresses e.first
  pub last : HasAddress passes addresses e.last
  pub low : (step : ℕ) → step < length addresses → passes step ≡ true → e.first ≤ slice_index addresses step
  pub high : (step : ℕ) → step < length addresses → passes step ≡ true → slice_index addresses step ≤ e.last

-- none exactly if no step passes
abbrev pub IsExtent : (ℕ → Bool) → List ℕ → Option Extent → Type 0
IsExtent passes addresses None = (step : ℕ) → step < length addresses → passes step ≡ false
IsExtent passes addresses (Some e) = IsFromTo passes addresses e

-- The code's own words.

abbrev pub is_at : ℕ → Option ℕ → Bool
is_at v place = option_eq nat_eq place (Some v)

abbrev pub joined : Option Extent → Option Extent → Option Extent
joined None b = b
joined (Some a) None = Some a
joined (Some a) (Some b) = Some (record { first = min a.first b.first; last = max a.last b.last })

-- with an extent joined to the one at a place, if there is a place
abbrev pub added : Option ℕ → Option Extent → List (Option Extent) → List (Option Extent)
added None e extents = extents
added (Some place) e extents = slice_set extents place (joined (slice_index_or extents place None) e)
