-- One pass over sorted rows: which of them stay.
use Rattle.std.specs.Prelude.{◌≡◌, ◌≤◌, ◌<◌, ◌==◌, ◌⊎◌, nat_lt, Bool, true, ◌&&◌, ◌||◌, Option, Some, None}
use Rattle.tomex_pareto.specs.declared.front_row.FrontRow.{FrontRow}

-- a may stand before b: by cost, then cycles, then number
abbrev pub IsUpTo : FrontRow → FrontRow → Type 0
IsUpTo a b =
    (a.cost < b.cost) ⊎ ((a.cost ≡ b.cost) × ((a.cycles < b.cycles) ⊎ ((a.cycles ≡ b.cycles) × (a.row ≤ b.row))))

-- a row stays, given the last row before it that did
abbrev pub stays_after : Option FrontRow → FrontRow → Bool
stays_after None r = true
stays_after (Some b) r = nat_lt r.cycles b.cycles || (r.cycles == b.cycles && r.cost == b.cost)
