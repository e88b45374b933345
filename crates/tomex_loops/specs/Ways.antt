-- The code's own words: what all calls that aren't over have, kept in one list; and the ways, with where each place
-- stands last.
use Rattle.std.specs.Prelude.{ℕ, ◌≡◌, ◌<◌, ◌≤◌, List, [], ◌∷◌, length, map, reverse, take, drop, Option, None}
use Rattle.std.specs.Prelude.{Bool, false, IfSome, slice_index_or}
use Rattle.tomex_loops.specs.declared.finding.Finder.{Finder}
use Rattle.tomex_loops.specs.declared.finding.Stop.{Stop}
use Rattle.tomex_loops.specs.Calls.{Calls}
use Rattle.tomex_loops.specs.Loops.{Found, stand}

-- what the calls around have, if theirs begins at these places of the list, the latest first
abbrev pub around_in : {X : Type 0} → (List X → List X) → List ℕ → List X → List (List X)
around_in order [] xs = []
around_in order (b ∷ bases) xs = order (drop b xs) ∷ around_in order bases (take b xs)

-- what all calls have, in an order, if the latest one's begins at a base
abbrev pub calls_in : {X : Type 0} → (List X → List X) → ℕ → List ℕ → List X → Calls X
calls_in order base bases xs =
    record { here = order (drop base xs); around = around_in order bases (take base xs) }

-- where the calls' own begins, the latest first: none before that of a call around
abbrev pub AreBases : ℕ → List ℕ → Type 0
AreBases base [] = Unit {0}
AreBases base (b ∷ bases) = (b ≤ base) × AreBases b bases

abbrev pub same : {X : Type 0} → List X → List X
same xs = xs

abbrev pub places_of : List Stop → List ℕ
places_of stops = map (λ s. s.place) stops

-- Each place has where it stands last on the ways, and each stop where its place stands below.
pub record AreStops (stops : List Stop) (at : List (Option ℕ)) : Type 0 where
  pub last : (p : ℕ) → p < length at → slice_index_or at p None ≡ stand (places_of stops) p
  pub before : (k : ℕ) (z : Stop) → k < length stops → (slice_index_or stops k z).before
      ≡ stand (take k (places_of stops)) (slice_index_or stops k z).place
  pub within : (k : ℕ) (z : Stop) → k < length stops → (slice_index_or stops k z).place < length at

-- the head of each place's loop, by a list
abbrev pub loop_in : List (Option ℕ) → ℕ → Option ℕ
loop_in loops x = slice_index_or loops x None

-- each head has a lower number than the places of its loop
abbrev pub AreLower : List (Option ℕ) → Type 0
AreLower loops = (x : ℕ) → IfSome (loop_in loops x) (λ h. h < x)

-- heads and loops as they are found
pub record AreFound (heads : List Bool) (loops : List (Option ℕ)) (f : Found) : Type 0 where
  pub same_heads : (x : ℕ) → x < length heads → slice_index_or heads x false ≡ f.heads x
  pub same_loops : (x : ℕ) → x < length loops → loop_in loops x ≡ f.loop x

-- the state of the search, whatever is found
pub record IsFinding {A : Type 0} (s : Finder A) : Type 0 where
  pub stops : AreStops s.stops.items s.at.items
  pub low : s.base ≤ length s.stops.items
  pub bases : AreBases s.base (reverse s.bases.items)
  pub heads : length s.heads.items ≡ length s.at.items
  pub loops : length s.loops.items ≡ length s.at.items
  pub lower : AreLower s.loops.items

abbrev pub ways_of : {A : Type 0} → Finder A → Calls ℕ
ways_of s = calls_in same s.base (reverse s.bases.items) (places_of s.stops.items)

-- it has found what is defined
pub record ShowsFound {A : Type 0} (f : Found) (s : Finder A) : Type 0 where
  pub ways : ways_of s ≡ f.ways
  pub found : AreFound s.heads.items s.loops.items f
