-- The needs of a run as they are counted: a step's waits are differences of cycles that the evaluator keeps.
use Rattle.std.specs.Prelude.{ℕ, ◌+◌, ◌-◌, ◌≤◌, ◌==◌, if◌then◌else◌, List, Option, Some}
use Rattle.std.specs.Prelude.{None, max, replicate, slice_index_or, slice_set}
use Rattle.tomex_rvdec.specs.Places.{place_of_pool, place_of_unit}
use Rattle.tomex_rvdec.specs.declared.pool.PoolId.{PoolId}
use Rattle.tomex_rvdec.specs.declared.pool.UnitId.{UnitId}
use Rattle.tomex_timing.specs.declared.needs.Needs.{Needs}
use Rattle.tomex_timing.specs.declared.next.Marks.{Marks}
use Rattle.tomex_timing.specs.declared.next.Next.{Next}
use Rattle.tomex_timing.specs.declared.need.Need.{Need}
use Rattle.tomex_config.specs.declared.part.Part.{Part}
use Rattle.tomex_timing.specs.declared.need.Waits.{Waits}
use Rattle.tomex_timing.specs.declared.times.Times.{Times}
use Rattle.tomex_timing.specs.declared.waiting.Taken.{Taken}
use Rattle.tomex_timing.specs.declared.recent.Facts.{Facts}
use Rattle.tomex_timing.specs.declared.recent.Latest.{Latest}
use Rattle.tomex_timing.specs.Needs.{no_need, need_of, stations_up_to}

-- the first cycle in which a step can wait to issue, and the first of these after the finish of each older branch
abbrev pub issue_low : Latest → ℕ
issue_low latest = max 1 latest.issue

abbrev pub past_branches : Latest → ℕ
past_branches latest = max (issue_low latest) (latest.branch + 1)

-- the first cycle after the issue with both operands
abbrev pub operands_from : ℕ → ℕ → ℕ → ℕ
operands_from issue j k = max issue (max j k) + 1

-- the waits of a next step, between its marks
abbrev pub waits_by : Latest → Marks → Times → Waits
waits_by latest marks at = record {
  branch = past_branches latest - issue_low latest;
  width = marks.from - past_branches latest;
  station = at.issue - marks.from;
  operand = marks.operands - at.issue - 1;
  address = marks.ready - marks.operands;
  memory = marks.clear - marks.ready;
  unit = at.start - marks.clear;
  bus = at.end - at.finish - 1;
}

-- what a next step takes
abbrev pub taken_with : Latest → Times → ℕ → ℕ → Taken
taken_with latest at units buses = record {
  station = stations_up_to at.station;
  unit = units;
  bus = buses;
  width = if at.issue == latest.issue then latest.issued + 1 else 1;
}

abbrev pub taken_from : Latest → Next → Taken
taken_from latest next = taken_with latest next.at next.units next.buses

-- before the first step
abbrev pub nothing_needed : Needs
nothing_needed = record {
  stations = replicate 6 no_need;
  units = replicate 5 no_need;
  buses = no_need;
  width = no_need;
  branch = 0;
  operand = 0;
  address = 0;
  memory = 0;
  last_issue = 0;
  total = 0;
}

abbrev pub need_after : Need → ℕ → ℕ → Need
need_after need taken waited = record { peak = max taken need.peak; stalls = waited + need.stalls }

abbrev pub stations_after : Option PoolId → ℕ → ℕ → List Need → List Need
stations_after None taken waited needs = needs
stations_after (Some pool) taken waited needs =
    slice_set needs (place_of_pool pool) (need_after (slice_index_or needs (place_of_pool pool) no_need) taken waited)

abbrev pub units_after : Option UnitId → ℕ → ℕ → List Need → List Need
units_after None taken waited needs = needs
units_after (Some unit) taken waited needs =
    slice_set needs (place_of_unit unit) (need_after (slice_index_or needs (place_of_unit unit) no_need) taken waited)

-- after one more step
abbrev pub needs_after : Facts → Waits → Taken → Times → Needs → Needs
needs_after f waits taken at needs = record {
  stations = stations_after f.pool taken.station waits.station needs.stations;
  units = units_after f.unit taken.unit waits.unit needs.units;
  buses = need_after needs.buses taken.bus waits.bus;
  width = need_after needs.width taken.width waits.width;
  branch = waits.branch + needs.branch;
  operand = waits.operand + needs.operand;
  address = waits.address + needs.address;
  memory = waits.memory + needs.memory;
  last_issue = at.issue;
  total = max at.end needs.total;
}

-- no wait is longer
pub record AreWithin (n : ℕ) (waits : Waits) : Type 0 where
  pub branch : waits.branch ≤ n
  pub width : waits.width ≤ n
  pub station : waits.station ≤ n
  pub operand : waits.operand ≤ n
  pub address : waits.address ≤ n
  pub memory : waits.memory ≤ n
  pub unit : waits.unit ≤ n
  pub bus : waits.bus ≤ n

-- and no part has more stalls
pub record IsWithin (n : ℕ) (needs : Needs) : Type 0 where
  pub parts : (part : Part) → (need_of needs part).stalls ≤ n
  pub branch : needs.branch ≤ n
  pub operand : needs.operand ≤ n
  pub address : needs.address ≤ n
  pub memory : needs.memory ≤ n
