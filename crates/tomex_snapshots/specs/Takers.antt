-- The takers of a result that is sent in a cycle.
use Rattle.std.specs.Prelude.{ℕ, ◌-◌, ◌==◌, Bool, true, false, ◌&&◌, if◌then◌else◌, List, [], ◌∷◌, ◌++◌, codes}
use Rattle.std.specs.Prelude.{Option, Some, None}
use Rattle.std.specs.List.{flat_map}
use Rattle.std.specs.Fmt.{decimal}
use Rattle.tomex_rvdec.specs.Places.{place_of_pool}
use Rattle.tomex_rvexec.specs.Steps.{is_in, is_number, step_dest, step_pool}
use Rattle.tomex_timing.specs.Tables.{all_tags, busy_of, is_under_way, qi_of}
use Rattle.tomex_timing.specs.declared.tables.Busy.{Busy}
use Rattle.tomex_timing.specs.declared.tables.Field.{Field}
use Rattle.tomex_timing.specs.declared.tables.Field.TheVariants.{Waits, Value, Unread}
use Rattle.tomex_timing.specs.declared.tables.Tag.{Tag}
use Rattle.tomex_timing.specs.declared.times.Done.{Done}
use Rattle.tomex_snapshots.specs.Entries.{history_of, station_of, tag_text}
use Rattle.tomex_snapshots.specs.declared.entries.Entry.{Entry}
use Rattle.tomex_snapshots.specs.declared.takers.Taker.{Taker}
use Rattle.tomex_snapshots.specs.declared.takers.Taker.TheVariants.{J, K, Register}

abbrev pub same_tag : Tag → Tag → Bool
same_tag a b = place_of_pool a.pool == place_of_pool b.pool && a.number == b.number

-- both are the same station, or both are none
abbrev pub same_name : Option Tag → Option Tag → Bool
same_name None None = true
same_name (Some a) (Some b) = same_tag a b
same_name _ _ = false

-- the step in a station after cycle t, with its fields as of cycle s; `station_fields t` is `occupant t t`
abbrev pub occupant : ℕ → ℕ → List Done → Tag → Option Busy
occupant s t [] tag = None
occupant s t (d ∷ older) tag =
    if is_under_way t d && is_in tag.pool (step_pool d.step) && is_number d.at.station tag.number
    then Some (busy_of s tag d older)
    else occupant s t older tag

-- the operand waits for this station's result
abbrev pub awaits : Tag → Field → Bool
awaits tag (Waits other) = same_tag other tag
awaits tag (Value value) = false
awaits tag Unread = false

-- the operands in a station that wait for this one
abbrev pub operand_takers : Tag → Option Busy → List Taker
operand_takers tag None = []
operand_takers tag (Some b) =
    (if awaits tag b.j then J b.tag ∷ [] else []) ++ (if awaits tag b.k then K b.tag ∷ [] else [])

-- the register, if the station was its Qi and it has no Qi now
abbrev pub register_takers : Tag → ℕ → Option Tag → Option Tag → List Taker
register_takers tag r (Some qi) None = if same_tag qi tag then Register r ∷ [] else []
register_takers tag r _ _ = []

-- The takers of what a station sends to a register in cycle t: the operands in stations after the cycle that waited for
-- it up to the cycle before; one that issues in the cycle takes what it would have waited for. Then the register.
unfoldable pub takers_to : ℕ → List Done → Tag → ℕ → List Taker
takers_to t h tag r =
    flat_map (λ station. operand_takers tag (occupant (t - 1) t h station)) all_tags
    ++ register_takers tag r (qi_of (t - 1) h r) (qi_of t h r)

abbrev pub takers_from : ℕ → List Done → Option Tag → Option ℕ → List Taker
takers_from t h (Some tag) (Some r) = takers_to t h tag r
takers_from t h _ _ = []

unfoldable pub takers : ℕ → List Entry → Entry → List Taker
takers t es e = takers_from t (history_of es) (station_of e) (step_dest e.step)

-- a taker's text: `alu0 Vj`, `alu0 Vk` or `x3`
abbrev pub taker_text : Taker → List ℕ
taker_text (J tag) = tag_text tag ++ codes " Vj"
taker_text (K tag) = tag_text tag ++ codes " Vk"
taker_text (Register r) = codes "x" ++ decimal r

-- the takers' texts, joined by commas, or `none`
abbrev pub takers_text : List Taker → List ℕ
takers_text [] = codes "none"
takers_text (x ∷ xs) = taker_text x ++ flat_map (λ y. codes ", " ++ taker_text y) xs
