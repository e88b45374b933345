-- The registers and their status.
use Rattle.std.specs.Prelude.{ℕ, Bool, if◌then◌else◌, List, Option, Some, None, slice_index, slice_index_or, slice_set}
use Rattle.tomex_rvdec.specs.Operands.{sources_of}
use Rattle.tomex_rvdec.specs.declared.instr.Instr.{Instr}
use Rattle.tomex_rvexec.specs.Steps.{is_number}
use Rattle.tomex_timing.specs.Tables.{field_from}
use Rattle.tomex_timing.specs.declared.tables.Field.{Field}
use Rattle.tomex_timing.specs.declared.tables.Field.TheVariants.{Unread}
use Rattle.tomex_timing.specs.declared.tables.Tag.{Tag}
use Rattle.tomex_tags.specs.declared.register_status.RegStatus.{RegStatus}
use Rattle.tomex_tags.specs.declared.station.Station.{Station}
use Rattle.tomex_tags.specs.Contents.{new_station}
use Rattle.tomex_tags.specs.Places.{place_at}

-- the operand that the registers give: the value if Qi is empty, else the tag that Qi names
abbrev pub operand_in : RegStatus → Option ℕ → Field
operand_in registers None = Unread
operand_in registers (Some r) = field_from (slice_index registers.values r) (slice_index_or registers.tags r None)

-- the station that an instruction's issue fills: its operands are read from these registers
abbrev pub station_from : RegStatus → Instr → ℕ → Station
station_from registers instr pc =
    new_station instr pc (operand_in registers (sources_of instr).j) (operand_in registers (sources_of instr).k)

-- the register status once a destination waits for a station
abbrev pub tags_with : List (Option Tag) → Option ℕ → Tag → List (Option Tag)
tags_with tags None tag = tags
tags_with tags (Some r) tag = slice_set tags r (Some tag)

-- a register's Qi names the station of a place
abbrev pub names : RegStatus → ℕ → ℕ → Bool
names registers r x = is_number (place_at (slice_index_or registers.tags r None)) x

-- the registers after a place sends a value: if the register's Qi still names the place, it is written and Qi is
-- emptied
abbrev pub registers_after : RegStatus → ℕ → ℕ → ℕ → RegStatus
registers_after registers r x value =
    if names registers r x
    then record { values = slice_set registers.values r value; tags = slice_set registers.tags r None }
    else registers
