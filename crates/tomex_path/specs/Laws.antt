-- Laws of the path: what holds an event comes in the cycle before; the links add up to the run; and if no link waits
-- for a station, a unit or a bus, no machine is faster, except by its width or its latencies.
use Rattle.std.specs.Prelude.{ℕ, ◌+◌, ◌-◌, ◌<◌, ◌≤◌, ◌≡◌, Bool, true, false, not, ◌==◌, nat_le, ◌&&◌, ◌||◌}
use Rattle.std.specs.Prelude.{if◌then◌else◌, is_some, List, [], ◌∷◌, ◌++◌, map, sum_by}
use Rattle.std.specs.List.{list_all, list_any}
use Rattle.tomex_rvdec.specs.Places.{place_of_pool, place_of_unit}
use Rattle.tomex_rvdec.specs.declared.pool.UnitId.{UnitId}
use Rattle.tomex_rvexec.specs.Steps.{step_dest, step_unit}
use Rattle.tomex_rvexec.specs.declared.step.Step.{Step}
use Rattle.tomex_config.specs.Configuration.{Configuration, IsWithinLimits, option_of}
use Rattle.tomex_config.specs.declared.part.Part.{Part}
use Rattle.tomex_config.specs.declared.part.Part.TheVariants.{Stations, Units, Buses, Width}
use Rattle.tomex_timing.specs.declared.times.Done.{Done}
use Rattle.tomex_timing.specs.History.{cycle_of, greatest_end, is_memory, last_issue}
use Rattle.tomex_timing.specs.Needs.{stalls, waits_of}
use Rattle.tomex_config.specs.Parts.{all_parts}
use Rattle.tomex_timing.specs.Recurrence.{AreTimed}
use Rattle.tomex_timing.specs.Search.{history, times_in, total_of}
use Rattle.tomex_floor.specs.Floor.{floor_of}
use Rattle.tomex_config.specs.Configuration.{latency_of}
use Rattle.tomex_path.specs.declared.event.Event.{Event}
use Rattle.tomex_path.specs.declared.event.Holder.{Holder}
use Rattle.tomex_path.specs.declared.hold.Hold.{Hold}
use Rattle.tomex_path.specs.declared.link.Link.{Link}
use Rattle.tomex_path.specs.declared.reason.Reason.{Reason}
use Rattle.tomex_path.specs.declared.reason.Reason.TheVariants.{Address, Branch, For, Memory, Operand, Order}
use Rattle.tomex_path.specs.Holds.{cycle_at, event_of, hold_of, passes}
use Rattle.tomex_path.specs.Path.{path_of}

-- The cycle in which the youngest of some steps that passes has its event; 0 if none passes.
abbrev pub first_at : (List Done → Done → Bool) → Event → List Done → ℕ
first_at p e [] = 0
first_at p e (d ∷ older) = if p older d then cycle_at e d.at else first_at p e older

abbrev pub holder_at : Holder → List Done → ℕ
holder_at by h = first_at (passes by) (event_of by) h

-- the step issues in the cycle, computes its address, is in its unit, or has a bus
abbrev pub works : Done → ℕ → Bool
works d t =
    t == d.at.issue || (is_memory d.step && t == cycle_of d.at.address)
    || (is_some (step_unit d.step) && nat_le d.at.start t && nat_le t d.at.finish)
    || (is_some (step_dest d.step) && t == d.at.end)

-- What holds an event of a step: its own event comes in the cycle before the first of the link, which is not empty, and
-- in each of whose cycles the step works. The run's first step has nothing before it, and 0 stands for that.
pub record IsHeld (older : List Done) (d : Done) (k : Hold) (t : ℕ) : Type 0 where
  pub before : holder_at k.by older + 1 ≡ k.from
  pub within : k.from ≤ t
  pub work : (s : ℕ) → k.from ≤ s → s ≤ t → works d s ≡ true

-- each event of a step after the issue of the step before it is held: these are the events on paths
abbrev pub EventsAreHeld : Type 0
EventsAreHeld = (config : Configuration) (e : Event) (d : Done) (older : List Done) → IsWithinLimits config
    → AreTimed config (d ∷ older) → last_issue older < cycle_at e d.at
    → IsHeld older d (hold_of e older d (waits_of config older d)) (cycle_at e d.at)

-- the links have the cycles from one to another, each cycle once, in order: none is empty, and each begins in the cycle
-- after the one before
abbrev pub IsChain : ℕ → ℕ → List Link → Type 0
IsChain from to [] = to + 1 ≡ from
IsChain from to (l ∷ ls) = (l.from ≡ from) × (l.from ≤ l.to) × IsChain (l.to + 1) to ls

-- the steps of the links rise, from one after n on
abbrev pub StepsRise : ℕ → List Link → Type 0
StepsRise n [] = Unit {0}
StepsRise n (l ∷ ls) = (n < l.step) × StepsRise l.step ls

-- the cycles of a link
abbrev pub cycles_of : Link → ℕ
cycles_of l = l.to + 1 - l.from

-- a run's path has each cycle of the run once, so its links' cycles add up to the run's
abbrev pub PathAddsUp : Type 0
PathAddsUp = (config : Configuration) (h : List Done) → IsWithinLimits config → AreTimed config h
    → IsChain 1 (greatest_end h) (path_of config h) × (sum_by cycles_of (path_of config h) ≡ greatest_end h)

-- along it the steps are in program order
abbrev pub PathRises : Type 0
PathRises = (config : Configuration) (h : List Done) → StepsRise 0 (path_of config h)

-- the same part
abbrev pub is_part : Part → Part → Bool
is_part (Stations a) (Stations b) = place_of_pool a == place_of_pool b
is_part (Units a) (Units b) = place_of_unit a == place_of_unit b
is_part Buses Buses = true
is_part Width Width = true
is_part a b = false

-- a wait for this part
abbrev pub is_for : Reason → Part → Bool
is_for (For a) part = is_part a part
is_for reason part = false

-- the same reason
abbrev pub is_reason : Reason → Reason → Bool
is_reason (For part) reason = is_for reason part
is_reason Branch Branch = true
is_reason Operand Operand = true
is_reason Address Address = true
is_reason Memory Memory = true
is_reason Order Order = true
is_reason reason other = false

-- all reasons, in the order in which reports list them
abbrev pub all_reasons : List Reason
all_reasons = map For all_parts ++ (Branch ∷ Operand ∷ Address ∷ Memory ∷ Order ∷ [])

-- what a link has, if this is its reason
abbrev pub had_for : Reason → (Link → ℕ) → Link → ℕ
had_for reason f l = if is_reason reason l.reason then f l else 0

-- Each link has one reason. So what is summed over the links of each reason, as their number, their cycles or their
-- waits, adds up to the sum over all.
abbrev pub ReasonsAddUp : Type 0
ReasonsAddUp = (f : Link → ℕ) (path : List Link)
    → sum_by (λ reason. sum_by (had_for reason f) path) all_reasons ≡ sum_by f path

-- how long a link's step has waited for a part, if the link is a wait for it
abbrev pub waited_for : Part → Link → ℕ
waited_for part l = if is_for l.reason part then l.waits else 0

-- the waits for a part along a path are no more than its stalls
abbrev pub PathIsWithinStalls : Type 0
PathIsWithinStalls = (config : Configuration) (h : List Done) (part : Part) → IsWithinLimits config → AreTimed config h
    → sum_by (waited_for part) (path_of config h) ≤ stalls config part h

-- and a part that a path waits for has stalls
abbrev pub NamedPartsStall : Type 0
NamedPartsStall = (config : Configuration) (h : List Done) (part : Part) → IsWithinLimits config → AreTimed config h
    → list_any (λ l. is_for l.reason part) (path_of config h) ≡ true → 0 < stalls config part h

-- a wait for a station, a unit or a bus
abbrev pub waits_for_part : Reason → Bool
waits_for_part (For (Stations pool)) = true
waits_for_part (For (Units unit)) = true
waits_for_part (For Buses) = true
waits_for_part reason = false

-- no link is a wait for a station, a unit or a bus
abbrev pub is_free : List Link → Bool
is_free path = list_all (λ l. not (waits_for_part l.reason)) path

-- A run with such a path takes no fewer cycles on any other machine of at most its width and at least its latencies,
-- whatever parts that has.
abbrev pub FreePathIsLeast : Type 0
FreePathIsLeast = (config other : Configuration) (h g : List Done) → IsWithinLimits config
    → AreTimed config h → AreTimed other g → map (λ d. d.step) h ≡ map (λ d. d.step) g
    → other.width ≤ config.width
    → ((unit : UnitId) → (option_of config unit).latency ≤ (option_of other unit).latency)
    → is_free (path_of config h) ≡ true → greatest_end h ≤ greatest_end g

-- so it takes its floor
abbrev pub FreePathIsFloor : Type 0
FreePathIsFloor = (config : Configuration) (steps : List Step) → IsWithinLimits config
    → is_free (path_of config (history config steps)) ≡ true
    → total_of (times_in config steps) ≡ floor_of (latency_of config) config.width steps
