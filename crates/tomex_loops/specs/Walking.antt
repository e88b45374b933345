-- The code's own words: the state of the walk through the visits.
use Rattle.std.specs.Prelude.{ℕ, ◌≡◌, ◌≤◌, ◌==◌, false, List, [], ◌∷◌, Bool, Option, length, reverse, slice_index_or}
use Rattle.tomex_loops.specs.declared.visit.Open.{Open}
use Rattle.tomex_loops.specs.declared.visiting.Walker.{Walker}
use Rattle.tomex_loops.specs.Loops.{Found}
use Rattle.tomex_loops.specs.Visits.{Walk}
use Rattle.tomex_loops.specs.Ways.{AreBases, calls_in, loop_in}

-- what the outermost call has begins at 0
abbrev pub AreGrounded : ℕ → List ℕ → Type 0
AreGrounded base [] = base ≡ 0
AreGrounded base (b ∷ bases) = AreGrounded b bases

pub record IsWalking {A : Type 0} (s : Walker A) : Type 0 where
  pub low : s.base ≤ length s.under_way.items
  pub bases : AreBases s.base (reverse s.bases.items)
  pub grounded : AreGrounded s.base (reverse s.bases.items)

pub record ShowsWalk {A : Type 0} (w : Walk) (s : Walker A) : Type 0 where
  pub under_way : calls_in reverse s.base (reverse s.bases.items) s.under_way.items ≡ w.under_way
  pub visits : s.visits.items ≡ w.visits
  pub ends : s.ends.items ≡ w.ends
  pub rounds : s.rounds.items ≡ w.rounds

-- the first of some visits is of the loop with this head
abbrev pub begins_with : ℕ → List Open → Bool
begins_with head [] = false
begins_with head (v ∷ visits) = v.head == head

-- heads and loops by lists
abbrev pub found_by : List Bool → List (Option ℕ) → Found
found_by heads loops = record {
  ways = record { here = []; around = [] };
  heads = λ x. slice_index_or heads x false;
  loop = loop_in loops;
}
