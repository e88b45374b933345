-- The needs of a run: what it takes of a machine's parts, and how long its steps wait for each of them. Every cycle in
-- which a step waits is charged to one thing: the first that is missing, in the order below. This order is the
-- project's choice; the last thing is charged with what is left, since a step with nothing missing would have
-- continued.
use Rattle.std.specs.Prelude.{ℕ, ◌+◌, ◌-◌, ◌≤◌, ◌≡◌, ◌⊎◌, ◌==◌, nat_lt, nat_le, Bool, not, ◌&&◌, ◌||◌}
use Rattle.std.specs.Prelude.{if◌then◌else◌, List, [], ◌∷◌, Option, Some, None, count_by, is_some, max, length}
use Rattle.std.specs.Prelude.{reverse, slice_index_or}
use Rattle.std.specs.List.{list_all, range_with_len}
use Rattle.tomex_rvdec.specs.Places.{place_of_pool, place_of_unit}
use Rattle.tomex_rvdec.specs.declared.pool.PoolId.TheVariants as pools
use Rattle.tomex_rvdec.specs.declared.pool.UnitId.{UnitId}
use Rattle.tomex_rvdec.specs.declared.pool.UnitId.TheVariants as units
use Rattle.tomex_rvexec.specs.Steps.{step_pool, step_unit, step_dest, is_in}
use Rattle.tomex_rvexec.specs.declared.step.Step.{Step}
use Rattle.tomex_config.specs.Configuration.{Configuration, option_of}
use Rattle.tomex_config.specs.Cost.{all_units}
use Rattle.tomex_config.specs.Parts.{all_parts, count_of}
use Rattle.tomex_timing.specs.declared.needs.Needs.{Needs}
use Rattle.tomex_timing.specs.declared.need.Need.{Need}
use Rattle.tomex_config.specs.declared.part.Part.{Part}
use Rattle.tomex_config.specs.declared.part.Part.TheVariants.{Stations, Units, Buses, Width}
use Rattle.tomex_timing.specs.declared.need.Waits.{Waits}
use Rattle.tomex_timing.specs.declared.times.Done.{Done}
use Rattle.tomex_timing.specs.History.{is_of, cycle_of, greatest_end, last_issue}
use Rattle.tomex_timing.specs.Recurrence.{can_issue_another, are_branches_finished}
use Rattle.tomex_timing.specs.Recurrence.{has_operands, are_conflicts_finished}
use Rattle.tomex_timing.specs.Search.{history}

-- the number of cycles from one on and before another that pass a test
abbrev pub cycles_that : (ℕ → Bool) → ℕ → ℕ → ℕ
cycles_that p from to = count_by p (range_with_len from (to - from))

-- To issue, a step waits from the previous issue on: for a branch, for the width, for a station.

abbrev pub lacks_branch : List Done → ℕ → Bool
lacks_branch older t = not (are_branches_finished older t)

abbrev pub lacks_width : Configuration → List Done → ℕ → Bool
lacks_width config older t = are_branches_finished older t && not (can_issue_another config older t)

abbrev pub lacks_station : Configuration → List Done → ℕ → Bool
lacks_station config older t = are_branches_finished older t && can_issue_another config older t

abbrev pub issue_waits : List Done → Done → (ℕ → Bool) → ℕ
issue_waits older d lacks = cycles_that lacks (max 1 (last_issue older)) d.at.issue

-- To start, it waits after its issue: for an operand, for its address, for an older access, for a unit.

abbrev pub lacks_operand : List Done → Done → ℕ → Bool
lacks_operand older d t = not (has_operands older d.step t)

abbrev pub lacks_address : List Done → Done → ℕ → Bool
lacks_address older d t = has_operands older d.step t && not (nat_lt (cycle_of d.at.address) t)

abbrev pub lacks_memory : List Done → Done → ℕ → Bool
lacks_memory older d t =
    has_operands older d.step t && nat_lt (cycle_of d.at.address) t && not (are_conflicts_finished older d.step t)

abbrev pub lacks_unit : List Done → Done → ℕ → Bool
lacks_unit older d t =
    has_operands older d.step t && nat_lt (cycle_of d.at.address) t && are_conflicts_finished older d.step t

abbrev pub start_waits : Done → (ℕ → Bool) → ℕ
start_waits d lacks = cycles_that lacks (d.at.issue + 1) d.at.start

-- the waits of a step, given what is older; its result waits for a bus from its finish to its end
abbrev pub waits_of : Configuration → List Done → Done → Waits
waits_of config older d = record {
  branch = issue_waits older d (lacks_branch older);
  width = issue_waits older d (lacks_width config older);
  station = issue_waits older d (lacks_station config older);
  operand = start_waits d (lacks_operand older d);
  address = start_waits d (lacks_address older d);
  memory = start_waits d (lacks_memory older d);
  unit = start_waits d (lacks_unit older d);
  bus = d.at.end - (d.at.finish + 1);
}

-- of these, the waits for a part
abbrev pub waits_for : Part → Done → Waits → ℕ
waits_for (Stations pool) d waits = if is_in pool (step_pool d.step) then waits.station else 0
waits_for (Units unit) d waits = if is_of unit (step_unit d.step) then waits.unit else 0
waits_for Buses d waits = waits.bus
waits_for Width d waits = waits.width

-- the waits of each step of a history, the youngest first
abbrev pub waits_over : Configuration → List Done → List Waits
waits_over config [] = []
waits_over config (d ∷ older) = waits_of config older d ∷ waits_over config older

-- the waits of each step of a run, in program order
abbrev pub waits_in : Configuration → List Step → List Waits
waits_in config steps = reverse (waits_over config (history config steps))

-- a number for each step, given what is older, added up over a history
abbrev pub sum_over : (List Done → Done → ℕ) → List Done → ℕ
sum_over f [] = 0
sum_over f (d ∷ older) = f older d + sum_over f older

-- the stalls of a part: the cycles that all steps together wait for it
abbrev pub stalls : Configuration → Part → List Done → ℕ
stalls config part h = sum_over (λ older d. waits_for part d (waits_of config older d)) h

-- the cycles that all steps together wait by a cause, as for an operand, which is no part
abbrev pub stalls_by : (Waits → ℕ) → Configuration → List Done → ℕ
stalls_by cause config h = sum_over (λ older d. cause (waits_of config older d)) h

-- the stalls of all pools, and of all kinds of units
abbrev pub pool_stalls : Configuration → List Done → ℕ
pool_stalls config h =
    stalls config (Stations pools.Alu) h + stalls config (Stations pools.Mul) h + stalls config (Stations pools.Div) h
    + stalls config (Stations pools.Load) h + stalls config (Stations pools.Store) h
    + stalls config (Stations pools.Bru) h

abbrev pub unit_stalls : Configuration → List Done → ℕ
unit_stalls config h =
    stalls config (Units units.Alu) h + stalls config (Units units.Mul) h + stalls config (Units units.Div) h
    + stalls config (Units units.Mem) h + stalls config (Units units.Bru) h

-- the cycles after the last issue
abbrev pub drain : List Done → ℕ
drain h = greatest_end h - last_issue h

-- the number of stations up to this one, whose number counts from 0
abbrev pub stations_up_to : Option ℕ → ℕ
stations_up_to None = 0
stations_up_to (Some n) = n + 1

-- The amount of a part that a step takes, including what older steps take of it at the same time: the stations up to
-- its own, the operations of its kind that start with it, the results that end with it, the steps that issue with it.
abbrev pub taken_by : Part → List Done → Done → ℕ
taken_by (Stations pool) older d = if is_in pool (step_pool d.step) then stations_up_to d.at.station else 0
taken_by (Units unit) older d =
    if is_of unit (step_unit d.step)
    then count_by (λ x. is_of unit (step_unit x.step) && x.at.start == d.at.start) older + 1
    else 0
taken_by Buses older d =
    if is_some (step_dest d.step)
    then count_by (λ x. is_some (step_dest x.step) && x.at.end == d.at.end) older + 1
    else 0
taken_by Width older d = count_by (λ x. x.at.issue == d.at.issue) older + 1

-- the most of a part that a history takes at once
abbrev pub peak : Part → List Done → ℕ
peak part [] = 0
peak part (d ∷ older) = max (taken_by part older d) (peak part older)

-- A second configuration serves a history as the first does: of each part it has as many, or the history has no stalls
-- of it and takes at most as many as the second configuration has; and each kind of unit that is used has the same
-- latency.
pub record Serves (config other : Configuration) (h : List Done) : Type 0 where
  pub parts : (part : Part)
      → (count_of other part ≡ count_of config part)
      ⊎ ((stalls config part h ≡ 0) × (peak part h ≤ count_of other part))
  pub latencies : (unit : UnitId)
      → ((option_of other unit).latency ≡ (option_of config unit).latency) ⊎ (peak (Units unit) h ≡ 0)

-- nothing is taken and nothing waits
abbrev pub no_need : Need
no_need = record { peak = 0; stalls = 0 }

-- the need of a part
abbrev pub need_of : Needs → Part → Need
need_of needs (Stations pool) = slice_index_or needs.stations (place_of_pool pool) no_need
need_of needs (Units unit) = slice_index_or needs.units (place_of_unit unit) no_need
need_of needs Buses = needs.buses
need_of needs Width = needs.width

-- these are the needs of a history
pub record AreNeeds (config : Configuration) (h : List Done) (needs : Needs) : Type 0 where
  pub parts : (part : Part) → need_of needs part ≡ record { peak = peak part h; stalls = stalls config part h }
  pub branch : needs.branch ≡ stalls_by (λ w. w.branch) config h
  pub operand : needs.operand ≡ stalls_by (λ w. w.operand) config h
  pub address : needs.address ≡ stalls_by (λ w. w.address) config h
  pub memory : needs.memory ≡ stalls_by (λ w. w.memory) config h
  pub last_issue : needs.last_issue ≡ last_issue h
  pub total : needs.total ≡ greatest_end h
  pub pools : length needs.stations ≡ 6
  pub kinds : length needs.units ≡ 5

-- true if the needs on one configuration show that a part may have another's count
abbrev pub allows : Needs → Configuration → Configuration → Part → Bool
allows needs own other part =
    count_of own part == count_of other part
    || ((need_of needs part).stalls == 0 && nat_le (need_of needs part).peak (count_of other part))

-- true if they show that units of a kind may have the other's latency
abbrev pub allows_latency : Needs → Configuration → Configuration → UnitId → Bool
allows_latency needs own other unit =
    (option_of own unit).latency == (option_of other unit).latency || (need_of needs (Units unit)).peak == 0

-- true if they show both for all parts and kinds
abbrev pub suffice : Needs → Configuration → Configuration → Bool
suffice needs own other =
    list_all (allows needs own other) all_parts && list_all (allows_latency needs own other) all_units
