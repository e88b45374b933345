-- Laws of the recurrence.
use Rattle.std.specs.Prelude.{ℕ, ◌+◌, ◌-◌, ◌*◌, ◌<◌, ◌≤◌, ◌≡◌, ◌==◌, nat_lt, Bool, true, ◌&&◌, ◌||◌, if◌then◌else◌}
use Rattle.std.specs.Prelude.{List, [], ◌∷◌, ◌++◌, Option, Some, None, is_some, length, map, count_by, sum_by}
use Rattle.tomex_rvdec.specs.declared.pool.PoolId.{PoolId}
use Rattle.tomex_rvdec.specs.declared.pool.UnitId.{UnitId}
use Rattle.tomex_rvexec.specs.Results.{covers}
use Rattle.tomex_rvexec.specs.Steps.{is_store, step_dest, step_pool, step_unit}
use Rattle.tomex_rvexec.specs.declared.step.Step.{Step}
use Rattle.tomex_config.specs.Configuration.{Configuration, IsWithinLimits, stations_of, option_of}
use Rattle.tomex_timing.specs.declared.needs.Needs.{Needs}
use Rattle.tomex_config.specs.declared.part.Part.{Part}
use Rattle.tomex_config.specs.declared.part.Part.TheVariants.{Buses, Width}
use Rattle.tomex_timing.specs.declared.need.Waits.{Waits}
use Rattle.tomex_timing.specs.declared.tables.Tag.{Tag}
use Rattle.tomex_timing.specs.declared.times.Done.{Done}
use Rattle.tomex_timing.specs.declared.times.Times.{Times}
use Rattle.tomex_timing.specs.History.{cycle_of, is_memory, last_address, last_issue, greatest_end}
use Rattle.tomex_timing.specs.Needs.{AreNeeds, Serves, drain, peak, pool_stalls}
use Rattle.tomex_config.specs.Parts.{count_of}
use Rattle.tomex_timing.specs.Needs.{stalls, stalls_by, suffice, unit_stalls, waits_in}
use Rattle.tomex_timing.specs.Station.{has_station, is_free}
use Rattle.tomex_timing.specs.Recurrence.{IsTimed, AreTimed, can_issue, are_branches_finished}
use Rattle.tomex_timing.specs.Recurrence.{are_conflicts_finished, conflicts}
use Rattle.tomex_timing.specs.Search.{history, timed_of, times_in, total_of}
use Rattle.tomex_timing.specs.Tables.{tag_of}

-- each step of a run has times
abbrev pub TimesExist : Type 0
TimesExist = (config : Configuration) (older : List Done) (s : Step) → IsWithinLimits config → AreTimed config older
    → (at : Times) × IsTimed config older s at

-- a step has no two different sets of times
abbrev pub TimesAreUnique : Type 0
TimesAreUnique = (config : Configuration) (older : List Done) (s : Step) (a b : Times)
    → IsTimed config older s a → IsTimed config older s b → a ≡ b

-- the function gives the times of the relation
abbrev pub SearchIsTimed : Type 0
SearchIsTimed = (config : Configuration) (steps : List Step)
    → IsWithinLimits config → AreTimed config (timed_of config steps)

-- a history with the times of the relation is the function's
abbrev pub TimedIsSearch : Type 0
TimedIsSearch = (config : Configuration) (h : List Done) → IsWithinLimits config → AreTimed config h
    → h ≡ timed_of config (map (λ d. d.step) h)

-- n steps take at most 67 * n cycles
abbrev pub TotalIsBounded : Type 0
TotalIsBounded = (config : Configuration) (h : List Done) → IsWithinLimits config → AreTimed config h
    → greatest_end h ≤ 67 * length h

-- the cycles that a run takes are the greatest end of its history
abbrev pub TotalIsGreatestEnd : Type 0
TotalIsGreatestEnd = (config : Configuration) (steps : List Step)
    → greatest_end (history config steps) ≡ total_of (times_in config steps)

-- the times of a run's beginning are the beginning of its times
abbrev pub YoungerChangeNothing : Type 0
YoungerChangeNothing = (config : Configuration) (steps more : List Step)
    → (rest : List Times) × (times_in config (steps ++ more) ≡ times_in config steps ++ rest)

-- a test for issue: later than the previous issue and than the finish of each older branch, with a station free
abbrev pub can_issue_alone : Configuration → List Done → Step → ℕ → Bool
can_issue_alone config older s t =
    nat_lt (last_issue older) t && are_branches_finished older t && has_station config older (step_pool s) t

-- if one instruction issues in a cycle, this is the test for issue
abbrev pub IssuesAlone : Type 0
IssuesAlone = (config : Configuration) (older : List Done) (s : Step) (t : ℕ) → config.width ≡ 1
    → AreTimed config older → can_issue config older s t ≡ can_issue_alone config older s t

-- if one instruction issues in a cycle, each issue is later than the previous one
abbrev pub IssuesRise : Type 0
IssuesRise = (config : Configuration) (d : Done) (older : List Done) → config.width ≡ 1
    → AreTimed config (d ∷ older) → last_issue older < d.at.issue

-- whatever the width, no issue is earlier than the previous one
abbrev pub IssuesStandInOrder : Type 0
IssuesStandInOrder = (config : Configuration) (d : Done) (older : List Done)
    → AreTimed config (d ∷ older) → last_issue older ≤ d.at.issue

-- in each cycle at most as many steps issue as the width
abbrev pub IssuesFitTheWidth : Type 0
IssuesFitTheWidth = (config : Configuration) (h : List Done) (t : ℕ)
    → AreTimed config h → count_by (λ d. d.at.issue == t) h ≤ config.width

-- if g is the greatest end before a step, none of its times is before its issue or after its end, and it ends at most
-- 67 cycles after g
pub record InReach (g : ℕ) (at : Times) : Type 0 where
  pub issue_low : 0 < at.issue
  pub issue : at.issue ≤ at.end
  pub issue_reach : at.issue ≤ g + 1
  pub address : cycle_of at.address ≤ at.end
  pub start : at.start ≤ at.end
  pub finish : at.finish ≤ at.end
  pub order : at.start ≤ at.finish
  pub end : at.end ≤ g + 67

-- each step of a history is in reach
abbrev pub TimesAreInReach : Type 0
TimesAreInReach = (config : Configuration) (d : Done) (older : List Done)
    → IsWithinLimits config → AreTimed config (d ∷ older)
    → InReach (greatest_end older) d.at

-- an operation with a unit starts after its issue, and after its address if it has one
abbrev pub StartsComeLater : Type 0
StartsComeLater = (config : Configuration) (d : Done) (older : List Done) → IsTimed config older d.step d.at
    → is_some (step_unit d.step) ≡ true
    → (d.at.issue < d.at.start) × (cycle_of d.at.address < d.at.start)

-- a result is sent after the operation has finished
abbrev pub ResultsComeLater : Type 0
ResultsComeLater = (config : Configuration) (d : Done) (older : List Done) → IsTimed config older d.step d.at
    → is_some (step_dest d.step) ≡ true → d.at.finish < d.at.end

-- loads and stores compute their addresses after their issue, and one after the other
abbrev pub AddressesRise : Type 0
AddressesRise = (config : Configuration) (d : Done) (older : List Done) → IsTimed config older d.step d.at
    → is_memory d.step ≡ true
    → (d.at.issue < cycle_of d.at.address) × (last_address older < cycle_of d.at.address)

-- the number of a step's station is below its pool's count
abbrev pub NumbersAreLow : Type 0
NumbersAreLow = (config : Configuration) (d : Done) (older : List Done) (pool : PoolId) (n : ℕ)
    → IsTimed config older d.step d.at → step_pool d.step ≡ Some pool → d.at.station ≡ Some n
    → n < stations_of config pool

-- from a step's issue on no older one holds its station
abbrev pub StationsAreApart : Type 0
StationsAreApart = (config : Configuration) (d : Done) (older : List Done) (pool : PoolId) (n t : ℕ)
    → IsTimed config older d.step d.at → step_pool d.step ≡ Some pool → d.at.station ≡ Some n
    → d.at.issue ≤ t → is_free pool older t n ≡ true

-- a step that ends later than it issues has a station
abbrev pub StationsAreThere : Type 0
StationsAreThere = (config : Configuration) (d : Done) (older : List Done) → IsTimed config older d.step d.at
    → d.at.issue < d.at.end → (tag : Tag) × (tag_of d ≡ Some tag)

-- two accesses of one byte, one of them a store, conflict
abbrev pub AccessesConflict : Type 0
AccessesConflict = (x y : Step) (a : ℕ) → covers x a ≡ true → covers y a ≡ true
    → (is_store x || is_store y) ≡ true → conflicts x y ≡ true

-- an operation starts after the finish of each older step that it conflicts with
abbrev pub ConflictsAreFinished : Type 0
ConflictsAreFinished = (config : Configuration) (d : Done) (older : List Done) → IsTimed config older d.step d.at
    → is_some (step_unit d.step) ≡ true → are_conflicts_finished older d.step d.at.start ≡ true

-- a history takes no more of a part than its configuration has
abbrev pub PeakIsWithin : Type 0
PeakIsWithin = (config : Configuration) (h : List Done) (part : Part)
    → AreTimed config h → peak part h ≤ count_of config part

-- a history takes all of each part that its steps wait for
abbrev pub StalledPartsAreFull : Type 0
StalledPartsAreFull = (config : Configuration) (h : List Done) (part : Part) → AreTimed config h
    → 0 < stalls config part h → peak part h ≡ count_of config part

-- a configuration that serves a history equally well gives each step the same times
abbrev pub ServedTimesAreSame : Type 0
ServedTimesAreSame = (config other : Configuration) (h : List Done)
    → AreTimed config h → Serves config other h → AreTimed other h

-- so a run has one history, and one total, on both
abbrev pub ServedRunsAreSame : Type 0
ServedRunsAreSame = (config other : Configuration) (steps : List Step) → IsWithinLimits config → IsWithinLimits other
    → Serves config other (history config steps)
    → (history other steps ≡ history config steps)
    × (total_of (times_in other steps) ≡ total_of (times_in config steps))

-- Issue accounting: each cycle of a run is one in which a step waits to issue, the cycle in which the last step issues
-- if nothing waits, or one of the drain after its last issue.
abbrev pub IssueCyclesAddUp : Type 0
IssueCyclesAddUp = (config : Configuration) (d : Done) (older : List Done)
    → IsWithinLimits config → AreTimed config (d ∷ older)
    → stalls_by (λ w. w.branch) config (d ∷ older) + stalls config Width (d ∷ older) + pool_stalls config (d ∷ older)
    + drain (d ∷ older) + 1 ≡ greatest_end (d ∷ older)

-- the cycles from issue to end of the steps with a unit
abbrev pub held_cycles : List Done → ℕ
held_cycles [] = 0
held_cycles (d ∷ older) = (if is_some (step_unit d.step) then d.at.end - d.at.issue else 0) + held_cycles older

-- of these an operation takes its latency, and its result a cycle on a bus
abbrev pub work_by : Configuration → Option UnitId → Bool → ℕ
work_by config None dest = 0
work_by config (Some unit) dest = (option_of config unit).latency + (if dest then 1 else 0)

abbrev pub work_cycles : Configuration → List Done → ℕ
work_cycles config [] = 0
work_cycles config (d ∷ older) =
    work_by config (step_unit d.step) (is_some (step_dest d.step)) + work_cycles config older

-- Station accounting: the other cycles are waits.
abbrev pub StationCyclesAddUp : Type 0
StationCyclesAddUp = (config : Configuration) (h : List Done) → IsWithinLimits config → AreTimed config h
    → held_cycles h
    ≡ stalls_by (λ w. w.operand) config h + stalls_by (λ w. w.address) config h + stalls_by (λ w. w.memory) config h
    + unit_stalls config h + stalls config Buses h + work_cycles config h

-- needs of a run that suffice for another configuration show that its times are the same there
abbrev pub NeedsTell : Type 0
NeedsTell = (config other : Configuration) (h : List Done) (needs : Needs)
    → AreNeeds config h needs → suffice needs config other ≡ true
    → Serves config other h

-- the waits of a run's steps for one cause add up to its stalls by that cause
abbrev pub WaitsAddUp : Type 0
WaitsAddUp = (config : Configuration) (steps : List Step) (cause : Waits → ℕ)
    → sum_by cause (waits_in config steps) ≡ stalls_by cause config (history config steps)

-- those for a station are the stalls of all pools
abbrev pub StationWaitsAreStalls : Type 0
StationWaitsAreStalls = (config : Configuration) (h : List Done) → AreTimed config h
    → stalls_by (λ w. w.station) config h ≡ pool_stalls config h

-- those for a unit are the stalls of all kinds
abbrev pub UnitWaitsAreStalls : Type 0
UnitWaitsAreStalls = (config : Configuration) (h : List Done) → AreTimed config h
    → stalls_by (λ w. w.unit) config h ≡ unit_stalls config h

-- those for the buses and the width are the stalls of these
abbrev pub BusWaitsAreStalls : Type 0
BusWaitsAreStalls = (config : Configuration) (h : List Done) → stalls_by (λ w. w.bus) config h ≡ stalls config Buses h

abbrev pub WidthWaitsAreStalls : Type 0
WidthWaitsAreStalls = (config : Configuration) (h : List Done)
    → stalls_by (λ w. w.width) config h ≡ stalls config Width h
