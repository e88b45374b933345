-- An operand: a value (V), the tag of the station that will send it (Q), or nothing that is read.
use Rattle.std.specs.Prelude.{ℕ, Bool, true, false, ◌==◌, if◌then◌else◌, Option, Some, None}
use Rattle.tomex_timing.specs.declared.tables.Field.{Field}
use Rattle.tomex_timing.specs.declared.tables.Field.TheVariants.{Value, Waits, Unread}
use Rattle.tomex_timing.specs.declared.tables.Tag.{Tag}
use Rattle.tomex_tags.specs.Places.{place_of_tag}

-- the operand isn't a Q
abbrev pub is_there : Field → Bool
is_there (Value v) = true
is_there (Waits tag) = false
is_there Unread = true

-- the value of an operand, 0 if it isn't there
abbrev pub value_in : Field → ℕ
value_in (Value v) = v
value_in (Waits tag) = 0
value_in Unread = 0

abbrev pub value_or_tag : Option ℕ → Tag → Field
value_or_tag None tag = Waits tag
value_or_tag (Some v) tag = Value v

-- an operand after the values that are sent, by place
abbrev pub field_after : (ℕ → Option ℕ) → Field → Field
field_after sent (Waits tag) = value_or_tag (sent (place_of_tag tag)) tag
field_after sent (Value v) = Value v
field_after sent Unread = Unread

-- only place x sends
abbrev pub only : ℕ → Option ℕ → ℕ → Option ℕ
only x sent y = if x == y then sent else None

-- the operand is still to come from this place
abbrev pub comes_from : ℕ → Field → Bool
comes_from x (Value v) = false
comes_from x (Waits tag) = place_of_tag tag == x
comes_from x Unread = false
