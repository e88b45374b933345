-- What the code keeps of the stretches' nearest leaders.
use Rattle.std.specs.Prelude.{◌≡◌, ℕ, ◌<◌, ◌&&◌, nat_lt, Bool, List, [], ◌∷◌, length, map, slice_index_or}
use Rattle.std.specs.Prelude.{◌==◌, if◌then◌else◌, slice_index, Option, None, is_some, IsTrue}
use Rattle.tomex_samples.specs.declared.nearness.Near.{Near}
use Rattle.tomex_samples.specs.Leaders.{apart, count, counts_at, nearest}
use Rattle.tomex_samples.specs.Numbers.{best_below, sum_below}
use Rattle.tomex_samples.specs.Stretches.{Run}

abbrev pub no_leader : Near
no_leader = record { leader = 0; distance = 18446744073709551615 }

-- what is kept of stretch k
abbrev pub near_at : List Near → ℕ → Near
near_at near k = slice_index_or near k no_leader

-- the nearest leader of a stretch and its distance; with no leader it is farther than any
abbrev pub IsNear : Run → List ℕ → ℕ → Near → Type 0
IsNear run [] k x = x.distance ≡ 18446744073709551615
IsNear run (l ∷ ls) k x =
    (x.leader ≡ nearest run (l ∷ ls) k) × (x.distance ≡ apart run k (nearest run (l ∷ ls) k))

pub record AreNearest (run : Run) (leaders : List ℕ) (near : List Near) : Type 0 where
  pub number : length near ≡ count run
  pub each : (k : ℕ) → k < count run → IsNear run leaders k (near_at near k)

-- the part that begins with stretch k has an end
abbrev pub part_is_found : List (Option ℕ) → ℕ → Bool
part_is_found parts k = is_some (slice_index_or parts k None)

-- all these parts have one
abbrev pub AllCan : List (Option ℕ) → List ℕ → Type 0
AllCan parts ks = (t : ℕ) → t < length ks → IsTrue (part_is_found parts (slice_index ks t))

-- of the stretches below n that can and have a distance, the one with the greatest; of equals the first
abbrev pub farthest_by : List (Option ℕ) → List Near → ℕ → Option ℕ
farthest_by parts near n =
    best_below (λ k. is_some (slice_index_or parts k None) && nat_lt 0 (near_at near k).distance)
    (λ j k. nat_lt (near_at near k).distance (near_at near j).distance) n

-- only the leaders
abbrev pub leaders_in : List Near → List ℕ
leaders_in near = map (λ x. x.leader) near

-- at each word the sum of the counts of the first n stretches whose leader this is
pub record AreGroupSums (run : Run) (near : List Near) (leader n : ℕ) (sums : List ℕ) : Type 0 where
  pub each : (w : ℕ) → slice_index sums w
      ≡ sum_below (λ k. if (near_at near k).leader == leader then slice_index (counts_at run k) w else 0) n
