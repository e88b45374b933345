-- What holds of the loops of each run: that their numbers are within the lists, and in which order their steps come.
use Rattle.std.specs.Prelude.{◌≡◌, ℕ, ◌+◌, ◌<◌, ◌≤◌, IfSome, List, length, map, None, Option, slice_index_or}
use Rattle.std.specs.List.{All, range_with_len}
use Rattle.std.specs.List.Sorted.{IsNonDecreasingBy}
use Rattle.tomex_rvexec.specs.declared.step.Step.{Step}
use Rattle.tomex_loops.specs.declared.visit.Round.{Round}
use Rattle.tomex_loops.specs.declared.visit.Visit.{Visit}
use Rattle.tomex_loops.specs.Runs.{Known, ends_of, found_of, heads_of, here_of, innermost_of, rounds_of, visits_of}

-- A visit that is around another one began before it, and has a lower number.
abbrev pub AreEarlier : (Visit → Option ℕ) → List Visit → Type 0
AreEarlier outer visits = (v : ℕ) (z : Visit) → v < length visits
    → IfSome (outer (slice_index_or visits v z)) (λ u. u < v)

-- A visit ends no earlier than it begins, and no later than after the last of this many steps.
abbrev pub AreEnds : ℕ → List Visit → List (Option ℕ) → Type 0
AreEnds count visits ends = (v : ℕ) (z : Visit) → v < length visits
    → IfSome (slice_index_or ends v None) (λ e. ((slice_index_or visits v z).first ≤ e) × (e ≤ count))

-- A round is of one of the visits, and goes from a step to a later one.
abbrev pub IsRound : (many count : ℕ) → Round → Type 0
IsRound many count r = (r.visit < many) × (r.from < r.to) × (r.to < count)

-- if there is a visit, it is one of those there are
abbrev pub IsOneOf : ℕ → Option ℕ → Type 0
IsOneOf many o = IfSome o (λ u. u < many)

-- what holds of the loops of each run of this many steps
pub record AreSound (count : ℕ) (k : Known) : Type 0 where
  pub heads : All (λ h. h < count) k.heads
  pub loops : All (λ v. v.number < length k.heads) k.visits
  pub around : AreEarlier (λ v. v.around) k.visits
  pub within : AreEarlier (λ v. v.within) k.visits
  pub order : IsNonDecreasingBy (λ v. v.first) k.visits
  pub first : All (λ v. v.first < count) k.visits
  pub many_ends : length k.ends ≡ length k.visits
  pub ends : AreEnds count k.visits k.ends
  pub many_innermost : length k.innermost ≡ count
  pub innermost : All (IsOneOf (length k.visits)) k.innermost
  pub many_here : length k.here ≡ count
  pub here : All (IsOneOf (length k.visits)) k.here
  pub rounds : All (IsRound (length k.visits) count) k.rounds
  pub few : length k.visits + length k.rounds ≤ count

-- what is defined of a run
abbrev pub known_of : List Step → Known
known_of steps = record {
  heads = heads_of steps;
  loops = map (found_of steps).loop (range_with_len 0 (length steps));
  visits = visits_of steps;
  ends = ends_of steps;
  innermost = innermost_of steps;
  here = here_of steps;
  rounds = rounds_of steps;
}

-- It holds of each run.
abbrev pub LoopsAreSound : Type 0
LoopsAreSound = (steps : List Step) → AreSound (length steps) (known_of steps)
