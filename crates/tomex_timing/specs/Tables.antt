-- The tables after a cycle, from the history of a whole run: the busy stations, their fields, and the register status.
-- The fields are those of Hennessy and Patterson's tables: V and Q of both operands, A, and Qi of each register.
use Rattle.std.specs.Prelude.{ℕ, nat_lt, nat_le, Bool, ◌&&◌, if◌then◌else◌}
use Rattle.std.specs.Prelude.{List, [], ◌∷◌, ◌++◌, Option, Some, None, map}
use Rattle.std.specs.List.{filter_map, range_with_len}
use Rattle.tomex_rvdec.specs.declared.pool.PoolId.{PoolId}
use Rattle.tomex_rvdec.specs.declared.pool.PoolId.TheVariants.{Alu, Mul, Div, Load, Store, Bru}
use Rattle.tomex_rvexec.specs.Steps.{step_pool, step_dest, j_of, k_of, address_of, is_in, is_number}
use Rattle.tomex_rvexec.specs.declared.step.Operand.{Operand}
use Rattle.tomex_timing.specs.declared.tables.Busy.{Busy}
use Rattle.tomex_timing.specs.declared.tables.Field.{Field}
use Rattle.tomex_timing.specs.declared.tables.Field.TheVariants.{Value, Waits, Unread}
use Rattle.tomex_timing.specs.declared.tables.Tag.{Tag}
use Rattle.tomex_timing.specs.declared.times.Done.{Done}
use Rattle.tomex_timing.specs.History.{is_memory, cycle_of}

-- the content of tables after a cycle: the busy stations, and Qi of each register
pub record Tables : Type 0 where
  pub cycle : ℕ
  pub busy : List Busy
  pub registers : List (Option Tag)

abbrev pub tag_at : Option PoolId → Option ℕ → Option Tag
tag_at (Some pool) (Some n) = Some (record { pool = pool; number = n })
tag_at _ _ = None

abbrev pub tag_of : Done → Option Tag
tag_of d = tag_at (step_pool d.step) d.at.station

-- the station whose result isn't sent yet after cycle t
abbrev pub unsent_tag : ℕ → Done → Option Tag
unsent_tag t d = if nat_lt t d.at.end then tag_of d else None

-- the station that a register's value will come from, if its youngest writer among these hasn't ended
abbrev pub producer : ℕ → List Done → ℕ → Option Tag
producer t [] r = None
producer t (d ∷ older) r = if is_number (step_dest d.step) r then unsent_tag t d else producer t older r

abbrev pub field_from : ℕ → Option Tag → Field
field_from value None = Value value
field_from value (Some tag) = Waits tag

abbrev pub field_of : ℕ → List Done → Option Operand → Field
field_of t older None = Unread
field_of t older (Some o) = field_from o.value (producer t older o.register)

-- A of a load or store: the immediate before the address cycle, the address from that cycle on
abbrev pub a_of : ℕ → Done → Option ℕ
a_of t d =
    if is_memory d.step
    then Some (if nat_lt t (cycle_of d.at.address) then d.step.instr.imm else address_of d.step)
    else None

-- the step is issued, and hasn't ended
abbrev pub is_under_way : ℕ → Done → Bool
is_under_way t d = nat_le d.at.issue t && nat_lt t d.at.end

abbrev pub busy_of : ℕ → Tag → Done → List Done → Busy
busy_of t tag d older = record {
  tag = tag;
  instr = d.step.instr;
  j = field_of t older (j_of d.step);
  k = field_of t older (k_of d.step);
  a = a_of t d;
}

-- the fields of a station, if it is busy
abbrev pub station_fields : ℕ → List Done → Tag → Option Busy
station_fields t [] tag = None
station_fields t (d ∷ older) tag =
    if is_under_way t d && is_in tag.pool (step_pool d.step) && is_number d.at.station tag.number
    then Some (busy_of t tag d older)
    else station_fields t older tag

-- Qi: the station of the register's youngest issued writer, if that one hasn't ended
abbrev pub qi_of : ℕ → List Done → ℕ → Option Tag
qi_of t [] r = None
qi_of t (d ∷ older) r =
    if nat_le d.at.issue t && is_number (step_dest d.step) r then unsent_tag t d else qi_of t older r

abbrev pub tags_of : PoolId → List Tag
tags_of pool = map (λ n. record { pool = pool; number = n }) (range_with_len 0 16)

-- all stations that a configuration may have, in the order of pools and numbers
abbrev pub all_tags : List Tag
all_tags = tags_of Alu ++ tags_of Mul ++ tags_of Div ++ tags_of Load ++ tags_of Store ++ tags_of Bru

-- the busy stations in that order, and Qi of each register
abbrev pub tables_of : ℕ → List Done → Tables
tables_of t h = record {
  cycle = t;
  busy = filter_map (station_fields t h) all_tags;
  registers = map (qi_of t h) (range_with_len 0 32);
}
