-- The state kept while a view is made: the content of stations and registers after the steps so far.
use Rattle.std.specs.Prelude.{◌≡◌, ℕ, ◌+◌, ◌-◌, ◌*◌, nat_le, nat_lt, if◌then◌else◌, List}
use Rattle.std.specs.Prelude.{Option, Some, None, map, slice_index_or, slice_set}
use Rattle.std.specs.List.{range_with_len}
use Rattle.tomex_rvdec.specs.Places.{place_of_pool}
use Rattle.tomex_rvexec.specs.Steps.{j_of, k_of, step_dest}
use Rattle.tomex_rvexec.specs.declared.step.Operand.{Operand}
use Rattle.tomex_timing.specs.Tables.{a_of, all_tags, field_from, is_under_way, producer, qi_of, unsent_tag}
use Rattle.tomex_timing.specs.declared.tables.Busy.{Busy}
use Rattle.tomex_timing.specs.declared.tables.Field.{Field}
use Rattle.tomex_timing.specs.declared.tables.Field.TheVariants.{Unread}
use Rattle.tomex_timing.specs.declared.tables.Tag.{Tag}
use Rattle.tomex_timing.specs.declared.times.Done.{Done}
use Rattle.tomex_snapshots.specs.Entries.{done_of, station_of}
use Rattle.tomex_snapshots.specs.Takers.{occupant}
use Rattle.tomex_snapshots.specs.declared.snapshot.Snapshot.{Snapshot}
use Rattle.tomex_snapshots.specs.declared.snapshot.Snapshots.{Snapshots}
use Rattle.tomex_snapshots.specs.declared.entries.Entry.{Entry}

-- a station's place among those of all pools
abbrev pub place_of : Tag → ℕ
place_of tag = 16 * place_of_pool tag.pool + tag.number

-- the table with another value for a register, if there is one
abbrev pub set_in : List (Option Tag) → Option ℕ → Option Tag → List (Option Tag)
set_in tags None value = tags
set_in tags (Some r) value = slice_set tags r value

-- an operand, given the stations that registers' values will come from
abbrev pub field_in : List (Option Tag) → Option Operand → Field
field_in producers None = Unread
field_in producers (Some o) = field_from o.value (slice_index_or producers o.register None)

abbrev pub busy_in : ℕ → Tag → Entry → List (Option Tag) → Busy
busy_in by tag e producers = record {
  tag = tag;
  instr = e.step.instr;
  j = field_in producers (j_of e.step);
  k = field_in producers (k_of e.step);
  a = a_of by (done_of e);
}

abbrev pub stations_with : ℕ → Entry → List (Option Tag) → List (Option Busy) → Option Tag → List (Option Busy)
stations_with by e producers stations None = stations
stations_with by e producers stations (Some tag) =
    if nat_lt tag.number 16
    then slice_set stations (place_of tag) (Some (busy_in by tag e producers))
    else stations

abbrev pub stations_after : ℕ → ℕ → Entry → List (Option Tag) → List (Option Busy) → List (Option Busy)
stations_after by at e producers stations =
    if is_under_way at (done_of e) then stations_with by e producers stations (station_of e) else stations

abbrev pub registers_after : ℕ → Entry → List (Option Tag) → List (Option Tag)
registers_after by e registers =
    if nat_le e.at.issue by then set_in registers (step_dest e.step) (unsent_tag by (done_of e)) else registers

-- the snapshot after one more step
abbrev pub snapshot_after : ℕ → ℕ → Entry → Snapshot → Snapshot
snapshot_after by at e snapshot = record {
  stations = stations_after by at e snapshot.producers snapshot.stations;
  registers = registers_after by e snapshot.registers;
  producers = set_in snapshot.producers (step_dest e.step) (unsent_tag by (done_of e));
}

-- the stations' contents after cycle `at`, with their fields as of cycle `by`, and Qi and the producers as of then
pub record IsSnapshot (by at : ℕ) (h : List Done) (snapshot : Snapshot) : Type 0 where
  pub stations : snapshot.stations ≡ map (occupant by at h) all_tags
  pub registers : snapshot.registers ≡ map (qi_of by h) (range_with_len 0 32)
  pub producers : snapshot.producers ≡ map (producer by h) (range_with_len 0 32)

-- the snapshots of a view: the cycle before, the stations' contents now with their fields as of then, and the cycle
pub record AreSnapshots (t : ℕ) (h : List Done) (snapshots : Snapshots) : Type 0 where
  pub before : IsSnapshot (t - 1) (t - 1) h snapshots.before
  pub taking : IsSnapshot (t - 1) t h snapshots.taking
  pub now : IsSnapshot t t h snapshots.now
