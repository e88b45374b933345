-- Cycles for 1 of cost, as texts.
use Rattle.std.specs.Prelude.{ℕ, ◌*◌, ◌/◌, ◌==◌, if◌then◌else◌, List, codes}
use Rattle.tomex_pareto.specs.Front.{dominates}
use Rattle.tomex_pareto.specs.declared.front_row.FrontRow.{FrontRow}
use Rattle.tomex_layout.specs.Differences.{distance}
use Rattle.tomex_layout.specs.Hundredths.{hundredths}

-- cycles for 1 of cost between two rows, if one of them costs more and takes fewer cycles; else why there is none
unfoldable pub rate_text : FrontRow → FrontRow → List ℕ
rate_text own other =
    if dominates other own then codes "better"
    else if dominates own other then codes "worse"
    else if other.cost == own.cost then codes "same"
    else hundredths (distance own.cycles other.cycles * 100 / distance own.cost other.cost)
