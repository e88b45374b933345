-- What holds of the loops of each run: two of them lie one in the other or apart, and so do two visits; and which
-- visit is a step's innermost one.
use Rattle.std.specs.Prelude.{◌≡◌, ℕ, ◌<◌, ◌≤◌, ◌&&◌, ◌⊎◌, IfSome, IsFalse, IsSomeAnd, IsTrue, length, List}
use Rattle.std.specs.Prelude.{MatchOption, None, Option, slice_index_or}
use Rattle.std.specs.Option.{unwrap_or}
use Rattle.tomex_rvexec.specs.declared.step.Step.{Step}
use Rattle.tomex_loops.specs.declared.visit.Visit.{Visit}
use Rattle.tomex_loops.specs.Loops.{is_in_loop}
use Rattle.tomex_loops.specs.Runs.{ends_of, found_of, innermost_of, visits_of}

-- all places of one loop are places of another one, if these are their heads
abbrev pub LiesIn : (ℕ → Option ℕ) → ℕ → ℕ → Type 0
LiesIn loop h g = (x : ℕ) → IsTrue (is_in_loop loop h x) → IsTrue (is_in_loop loop g x)

-- no place is in both
abbrev pub AreApart : (ℕ → Option ℕ) → ℕ → ℕ → Type 0
AreApart loop h g = (x : ℕ) → IsFalse (is_in_loop loop h x && is_in_loop loop g x)

-- Two loops of a run lie one in the other or apart.
abbrev pub LoopsAreANest : Type 0
LoopsAreANest = (steps : List Step) (h g : ℕ) → let loop = (found_of steps).loop in
    LiesIn loop h g ⊎ (LiesIn loop g h ⊎ AreApart loop h g)

-- the step before which a visit ends, or the number of steps if the run ends in it
abbrev pub end_of : (count : ℕ) → List (Option ℕ) → ℕ → ℕ
end_of count ends v = unwrap_or (slice_index_or ends v None) count

-- Of two visits one begins after the other.
abbrev pub AreInOrder : List Visit → Type 0
AreInOrder visits = (v w : ℕ) (z : Visit) → v < w → w < length visits
    → (slice_index_or visits v z).first < (slice_index_or visits w z).first

-- The later one begins only when the other one is over, or else ends no later than it.
abbrev pub AreNested : ℕ → List Visit → List (Option ℕ) → Type 0
AreNested count visits ends = (v w : ℕ) (z : Visit) → v < w → w < length visits
    → (end_of count ends v ≤ (slice_index_or visits w z).first) ⊎ (end_of count ends w ≤ end_of count ends v)

-- A visit ends no later than the one around it.
abbrev pub EndWithin : (Visit → Option ℕ) → ℕ → List Visit → List (Option ℕ) → Type 0
EndWithin outer count visits ends = (v : ℕ) (z : Visit) → v < length visits
    → IfSome (outer (slice_index_or visits v z)) (λ u. end_of count ends v ≤ end_of count ends u)

-- If both are of one call, the loop of the inner one lies in the other's.
abbrev pub AreOfInnerLoops : (ℕ → Option ℕ) → List Visit → Type 0
AreOfInnerLoops loop visits = (v : ℕ) (z : Visit) → v < length visits
    → IfSome (slice_index_or visits v z).within
    (λ u. LiesIn loop (slice_index_or visits v z).head (slice_index_or visits u z).head)

-- A visit has each step from its first one on, up to its end.
pub record HasStep (count : ℕ) (visits : List Visit) (ends : List (Option ℕ)) (v step : ℕ) : Type 0 where
  pub one : v < length visits
  pub begun : (z : Visit) → (slice_index_or visits v z).first ≤ step
  pub goes_on : step < end_of count ends v

-- a step that is in a visit of the loop with this head
pub record IsInVisit (count : ℕ) (visits : List Visit) (ends : List (Option ℕ)) (head step : ℕ) : Type 0 where
  pub visit : ℕ
  pub has : HasStep count visits ends visit step
  pub loop : (z : Visit) → (slice_index_or visits visit z).head ≡ head

-- Each visit of a loop has one of another loop around it as it begins.
abbrev pub AreAllIn : List Visit → ℕ → ℕ → Type 0
AreAllIn visits h g = (v : ℕ) (z : Visit) → v < length visits → (slice_index_or visits v z).head ≡ h
    → IsSomeAnd (slice_index_or visits v z).around (λ u. (slice_index_or visits u z).head ≡ g)

-- Then each step in a visit of it is in one of the other loop, so it takes at most that one's steps.
abbrev pub TakeNoMore : ℕ → List Visit → List (Option ℕ) → Type 0
TakeNoMore count visits ends = (h g step : ℕ) → AreAllIn visits h g → IsInVisit count visits ends h step
    → IsInVisit count visits ends g step

-- what holds of the visits of a run of this many steps
pub record AreANest (count : ℕ) (loop : ℕ → Option ℕ) (visits : List Visit) (ends : List (Option ℕ)) : Type 0 where
  pub order : AreInOrder visits
  pub pairs : AreNested count visits ends
  pub around : EndWithin (λ v. v.around) count visits ends
  pub within : EndWithin (λ v. v.within) count visits ends
  pub loops : AreOfInnerLoops loop visits
  pub steps : TakeNoMore count visits ends

-- Two visits of a run lie one in the other or apart.
abbrev pub VisitsAreANest : Type 0
VisitsAreANest = (steps : List Step) → AreANest (length steps) (found_of steps).loop (visits_of steps) (ends_of steps)

-- the visit that began last of those that a step is in, if it is in one
abbrev pub IsLastBegun : ℕ → List Visit → List (Option ℕ) → ℕ → Option ℕ → Type 0
IsLastBegun count visits ends step innermost = MatchOption innermost ((v : ℕ) → HasStep count visits ends v step → ⊥)
    (λ v. HasStep count visits ends v step × ((w : ℕ) → HasStep count visits ends w step → w ≤ v))

-- This is the innermost visit of each step of a run.
abbrev pub InnermostBeganLast : Type 0
InnermostBeganLast = (steps : List Step) (k : ℕ) → k < length steps
    → IsLastBegun (length steps) (visits_of steps) (ends_of steps) k (slice_index_or (innermost_of steps) k None)
