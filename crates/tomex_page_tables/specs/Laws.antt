-- Laws of the tables.
use Rattle.std.specs.Prelude.{◌≡◌, ◌<◌, ◌⊎◌, ◌^◌, ◌+◌, ℕ, List, ◌++◌, codes, Some, sum_by}
use Rattle.std.specs.Fmt.{decimal}
use Rattle.tomex_config.specs.Configuration.{Configuration}
use Rattle.tomex_config.specs.Cost.{PriceList, cost_of}
use Rattle.tomex_config.specs.Parts.{all_parts}
use Rattle.tomex_config.specs.PartPrices.{cost_of_part}
use Rattle.tomex_page_tables.specs.Front.{more_cost, more_cycles}
use Rattle.tomex_page_tables.specs.declared.shown.ShownRow.{ShownRow}

-- the costs of all parts of a configuration are its cost
abbrev pub PartsAddUp : Type 0
PartsAddUp = (prices : PriceList) (config : Configuration)
    → sum_by (cost_of_part prices config) all_parts ≡ cost_of config prices

-- b is a and what a text says: `+6`, `-9426` or `0`
abbrev pub Adds : ℕ → List ℕ → ℕ → Type 0
Adds a text b =
    ((text ≡ codes "0") × (b ≡ a)) ⊎ ((n : ℕ) × (text ≡ codes "+" ++ decimal n) × (b ≡ a + n))
    ⊎ ((n : ℕ) × (text ≡ codes "-" ++ decimal n) × (b + n ≡ a))

-- a row's cost and cycles are those of the row above and what the row has more
abbrev pub DifferencesAddUp : Type 0
DifferencesAddUp = (above r : ShownRow)
    → Adds above.row.cost (more_cost (Some above) r) r.row.cost
    × Adds above.row.cycles (more_cycles (Some above) r) r.row.cycles

-- such a text says one thing
abbrev pub DifferencesSayOneThing : Type 0
DifferencesSayOneThing = (a b c : ℕ) (text : List ℕ) → a < 2 ^ 64 → b < 2 ^ 64 → c < 2 ^ 64
    → Adds a text b → Adds a text c → b ≡ c
