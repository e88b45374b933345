-- The text of the tables after a cycle: the cycle, a line for each busy station, and one for each register that waits.
use Rattle.std.specs.Prelude.{ℕ, ◌+◌, List, [], ◌∷◌, ◌++◌, codes, Option, Some, None}
use Rattle.std.specs.List.{flat_map}
use Rattle.std.specs.Fmt.{decimal}
use Rattle.tomex_rvdec.specs.Places.{name_of_pool}
use Rattle.tomex_rvdec.specs.Text.{hex8, name_of}
use Rattle.tomex_timing.specs.Tables.{Tables}
use Rattle.tomex_timing.specs.declared.tables.Busy.{Busy}
use Rattle.tomex_timing.specs.declared.tables.Field.{Field}
use Rattle.tomex_timing.specs.declared.tables.Field.TheVariants.{Value, Waits, Unread}
use Rattle.tomex_timing.specs.declared.tables.Tag.{Tag}

-- a station by its pool and number, as `alu0`
abbrev pub tag_text : Tag → List ℕ
tag_text tag = name_of_pool tag.pool ++ decimal tag.number

-- V of an operand: its value, or `-` if it isn't there
abbrev pub v_text : Field → List ℕ
v_text (Value value) = hex8 value
v_text (Waits tag) = codes "-"
v_text Unread = codes "-"

-- Q of an operand: the station that it waits for, or `-` if it waits for none
abbrev pub q_text : Field → List ℕ
q_text (Value value) = codes "-"
q_text (Waits tag) = tag_text tag
q_text Unread = codes "-"

-- A of a load or store: its offset or its address, and `-` for all others
abbrev pub a_text : Option ℕ → List ℕ
a_text None = codes "-"
a_text (Some a) = hex8 a

-- `mul0 mul Vj=00000005 Vk=- Qj=- Qk=alu1 A=-` and a line feed
abbrev pub station_line : Busy → List ℕ
station_line b =
    tag_text b.tag ++ (codes " " ++ (name_of b.instr.op
    ++ (codes " Vj=" ++ (v_text b.j ++ (codes " Vk=" ++ (v_text b.k
    ++ (codes " Qj=" ++ (q_text b.j ++ (codes " Qk=" ++ (q_text b.k
    ++ (codes " A=" ++ (a_text b.a ++ codes "\n"))))))))))))

-- `x3 Qi=mul0` and a line feed, of a register that waits
abbrev pub register_line : ℕ → Option Tag → List ℕ
register_line r None = []
register_line r (Some qi) = codes "x" ++ (decimal r ++ (codes " Qi=" ++ (tag_text qi ++ codes "\n")))

-- the lines of registers r, r + 1 and so on
abbrev pub register_lines : ℕ → List (Option Tag) → List ℕ
register_lines r [] = []
register_lines r (qi ∷ rest) = register_line r qi ++ register_lines (r + 1) rest

-- `cycle 3` and a line feed, and the lines of the stations and of the registers in their orders
abbrev pub tables_text_of : Tables → List ℕ
tables_text_of t =
    codes "cycle "
    ++ (decimal t.cycle ++ (codes "\n" ++ (flat_map station_line t.busy ++ register_lines 0 t.registers)))
