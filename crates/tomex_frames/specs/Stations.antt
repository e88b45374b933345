-- The reservation stations that a machine has, busy or not, and the register status, each with what changed in a cycle.
use Rattle.std.specs.Prelude.{ℕ, ◌-◌, if◌then◌else◌, List, [], ◌∷◌, ◌++◌, codes, Option, Some, None}
use Rattle.std.specs.List.{flat_map, range_with_len}
use Rattle.std.specs.Fmt.{decimal}
use Rattle.tomex_rvdec.specs.Text.{hex8, name_of}
use Rattle.tomex_rvdec.specs.declared.pool.PoolId.{PoolId}
use Rattle.tomex_rvdec.specs.declared.pool.PoolId.TheVariants as pools
use Rattle.tomex_config.specs.Configuration.{Configuration, stations_of}
use Rattle.tomex_timing.specs.Tables.{qi_of, station_fields}
use Rattle.tomex_timing.specs.declared.tables.Busy.{Busy}
use Rattle.tomex_timing.specs.declared.tables.Field.{Field}
use Rattle.tomex_timing.specs.declared.tables.Field.TheVariants.{Value, Waits, Unread}
use Rattle.tomex_timing.specs.declared.tables.Tag.{Tag}
use Rattle.tomex_timing.specs.declared.times.Done.{Done}
use Rattle.tomex_html.specs.Html.{changed_cell, table_end}
use Rattle.tomex_frames.specs.Constants.{station_head}
use Rattle.tomex_snapshots.specs.Entries.{name_text, tag_text}
use Rattle.tomex_snapshots.specs.Takers.{same_name}
use Rattle.tomex_frames.specs.declared.stations.Column.{Column}
use Rattle.tomex_frames.specs.declared.stations.Column.TheVariants as columns

-- V, Q and A as in the text of tables, but nothing instead of a dash
abbrev pub v_cell : Field → List ℕ
v_cell (Value value) = hex8 value
v_cell (Waits tag) = []
v_cell Unread = []

abbrev pub q_cell : Field → List ℕ
q_cell (Value value) = []
q_cell (Waits tag) = tag_text tag
q_cell Unread = []

abbrev pub a_cell : Option ℕ → List ℕ
a_cell None = []
a_cell (Some a) = hex8 a

abbrev pub busy_text : Busy → Column → List ℕ
busy_text b columns.Busy = codes "yes"
busy_text b columns.Op = name_of b.instr.op
busy_text b columns.Vj = v_cell b.j
busy_text b columns.Vk = v_cell b.k
busy_text b columns.Qj = q_cell b.j
busy_text b columns.Qk = q_cell b.k
busy_text b columns.A = a_cell b.a

abbrev pub free_text : Column → List ℕ
free_text columns.Busy = codes "no"
free_text _ = []

-- a column's text for a station, busy or not
abbrev pub column_text : Option Busy → Column → List ℕ
column_text None column = free_text column
column_text (Some b) column = busy_text b column

unfoldable pub all_columns : List Column
all_columns =
    columns.Busy ∷ columns.Op ∷ columns.Vj ∷ columns.Vk ∷ columns.Qj ∷ columns.Qk ∷ columns.A ∷ []

unfoldable pub field_cell : Option Busy → Option Busy → Column → List ℕ
field_cell was now column = changed_cell (column_text was column) (column_text now column)

-- a station, with what it showed after the cycle before
unfoldable pub station_row : Tag → Option Busy → Option Busy → List ℕ
station_row tag was now =
    (codes "<tr><th scope=\"row\">" ++ (tag_text tag ++ codes "</th>"))
    ++ (flat_map (field_cell was now) all_columns ++ codes "</tr>\n")

unfoldable pub row_in : ℕ → List Done → PoolId → ℕ → List ℕ
row_in t h pool number =
    let tag : Tag = record { pool = pool; number = number } in
    station_row tag (station_fields (t - 1) h tag) (station_fields t h tag)

-- all stations that the machine has of a pool
unfoldable pub pool_rows : Configuration → ℕ → List Done → PoolId → List ℕ
pool_rows config t h pool = flat_map (row_in t h pool) (range_with_len 0 (stations_of config pool))

unfoldable pub all_pools : List PoolId
all_pools = pools.Alu ∷ pools.Mul ∷ pools.Div ∷ pools.Load ∷ pools.Store ∷ pools.Bru ∷ []

unfoldable pub station_table : Configuration → ℕ → List Done → List ℕ
station_table config t h = station_head ++ (flat_map (pool_rows config t h) all_pools ++ table_end)

-- a register, with its Qi after the cycle before: an empty one is marked too if its result has arrived
unfoldable pub register_cell : ℕ → Option Tag → Option Tag → List ℕ
register_cell r was now =
    (if same_name was now then codes "<div>" else codes "<div class=\"n\">")
    ++ (codes "<dt>x" ++ (decimal r ++ (codes "</dt><dd>" ++ (name_text now ++ codes "</dd></div>\n"))))

unfoldable pub register_at : ℕ → List Done → ℕ → List ℕ
register_at t h r = register_cell r (qi_of (t - 1) h r) (qi_of t h r)

-- x0 isn't shown: it waits for nothing
unfoldable pub registers_text : ℕ → List Done → List ℕ
registers_text t h = flat_map (register_at t h) (range_with_len 1 31)

unfoldable pub register_status : ℕ → List Done → List ℕ
register_status t h =
    codes "<div class=\"q\"><h3>Register status (Qi)</h3>\n<dl class=\"r\">\n"
    ++ (registers_text t h ++ codes "</dl></div>\n")
