-- The contents of a busy station, and how they change.
use Rattle.std.specs.Prelude.{ℕ, Bool, true, false, not, ◌&&◌, ◌||◌, List, Option, Some, None}
use Rattle.std.specs.Prelude.{is_none, is_some, option_map, slice_index_or, slice_set}
use Rattle.tomex_rvdec.specs.Operands.{pool_of}
use Rattle.tomex_rvdec.specs.declared.instr.Instr.{Instr}
use Rattle.tomex_rvdec.specs.declared.op.Op.{Op}
use Rattle.tomex_rvdec.specs.declared.pool.PoolId.TheVariants as pools
use Rattle.tomex_rvexec.specs.declared.step.ByteRange.{ByteRange}
use Rattle.tomex_rvexec.specs.declared.step.Step.{Step}
use Rattle.tomex_rvexec.specs.Steps.{bytes_at, is_in}
use Rattle.tomex_rvexec.specs.Words.{sum}
use Rattle.tomex_timing.specs.declared.tables.Busy.{Busy}
use Rattle.tomex_timing.specs.declared.tables.Field.{Field}
use Rattle.tomex_timing.specs.declared.tables.Field.TheVariants.{Value, Waits, Unread}
use Rattle.tomex_timing.specs.declared.tables.Tag.{Tag}
use Rattle.tomex_tags.specs.declared.station.Station.{Station}
use Rattle.tomex_tags.specs.Operands.{field_after, is_there, value_in}
use Rattle.tomex_tags.specs.Places.{tag_at_place}

-- the station in a place: none if it is free
abbrev pub slot : List (Option Station) → ℕ → Option Station
slot slots place = slice_index_or slots place None

-- stations after the one in a place has changed, if there is one
abbrev pub with_change : (Station → Station) → ℕ → List (Option Station) → List (Option Station)
with_change change place slots = slice_set slots place (option_map change (slot slots place))

-- loads and stores
abbrev pub is_memory_op : Op → Bool
is_memory_op op = is_in pools.Load (pool_of op) || is_in pools.Store (pool_of op)

-- no operand is a Q
abbrev pub is_ready : Station → Bool
is_ready s = is_there s.j && is_there s.k

-- the step that a station holds, once its operands are there
abbrev pub step_in : Station → Step
step_in s = record { instr = s.instr; pc = s.pc; vj = value_in s.j; vk = value_in s.k }

abbrev pub bytes_from : Op → Option ℕ → Option ByteRange
bytes_from op None = None
bytes_from op (Some a) = bytes_at op a

-- the bytes of an access whose address is known
abbrev pub bytes_in : Station → Option ByteRange
bytes_in s = bytes_from s.instr.op s.address

-- a load or store whose address isn't computed yet
abbrev pub lacks_address : Option Station → Bool
lacks_address None = false
lacks_address (Some s) = is_memory_op s.instr.op && not (is_some s.address)

-- the station waits only for a unit and for older accesses
abbrev pub is_waiting : Station → Bool
is_waiting s = is_none s.finish && is_ready s && (not (is_memory_op s.instr.op) || is_some s.address)

-- a station whose operation has started: the cycle in which the unit is done, and the result
abbrev pub with_start : ℕ → ℕ → Station → Station
with_start finish value s = record s { finish = Some finish; value = value }

abbrev pub address_from : Station → Field → Station
address_from s (Value base) = record s { address = Some (sum base s.instr.imm) }
address_from s (Waits tag) = s
address_from s Unread = s

-- the station with its address, if its base is there
abbrev pub with_address : Station → Station
with_address s = address_from s s.j

-- a station after the values that are sent, by place
abbrev pub hears : (ℕ → Option ℕ) → Station → Station
hears sent s = record s { j = field_after sent s.j; k = field_after sent s.k }

-- A: the immediate before the address is known
abbrev pub a_from : Bool → Option ℕ → ℕ → Option ℕ
a_from false address imm = None
a_from true None imm = Some imm
a_from true (Some a) imm = Some a

-- the tables' entry for a station
abbrev pub busy_from : Tag → Station → Busy
busy_from tag s = record {
  tag = tag;
  instr = s.instr;
  j = s.j;
  k = s.k;
  a = a_from (is_memory_op s.instr.op) s.address s.instr.imm;
}

-- the tables' entry for a place: none if it is free
abbrev pub busy_at : List (Option Station) → ℕ → Option Busy
busy_at slots place = option_map (busy_from (tag_at_place place)) (slot slots place)

-- the station that an instruction's issue fills
abbrev pub new_station : Instr → ℕ → Field → Field → Station
new_station instr pc j k = record { instr = instr; pc = pc; j = j; k = k; address = None; finish = None; value = 0 }
