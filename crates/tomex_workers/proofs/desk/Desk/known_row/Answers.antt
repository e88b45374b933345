-- The totals are those of the row's configuration.
use Rattle.std.proofs.Common.{arith, ◌≡◌, List, Some, length, slice_get, subst, take}
use Rattle.tomex_config.specs.Configuration.{Configuration}
use Rattle.tomex_study.specs.Program.{Workload}
use Rattle.tomex_study.specs.Cycles.{totals_on}
use Rattle.tomex_plateaus.specs.Looks.{IsKnownRow}
use Rattle.tomex_workers.proofs.Closing.{known_cycles, known_made, row_read}
use Rattle.tomex_workers.proofs.desk.Desk.known_row.Goals as goal

pub returns-clause-known : goal.returns-clause-known
returns-clause-known g c = λ config here.
    subst (λ (ps : List Workload). (config : Configuration)
    → take (length ps) c.args.totals.now ≡ totals_on ps config → IsKnownRow ps config c.of.result)
    c.programs-programs.ensures.value c.of.ensures config (c.requires.totals config here)

pub returns-clause-cycles : goal.returns-clause-cycles
returns-clause-cycles g c =
    let here : slice_get c.args.self.now.study.now.rows c.args.row ≡ Some c.index-rows-row.result =
    row_read _ _ c.args.row c.index-rows-row.result c.rows.ensures.value c.requires.row c.index-rows-row.is in
    known_cycles c.args.self.now.study.now c.args.row c.index-rows-row.result c.of.result here
    (returns-clause-known g c c.index-rows-row.result here)

pub returns-clause-made : goal.returns-clause-made
returns-clause-made g c =
    let here : slice_get c.args.self.now.study.now.rows c.args.row ≡ Some c.index-rows-row.result =
    row_read _ _ c.args.row c.index-rows-row.result c.rows.ensures.value c.requires.row c.index-rows-row.is in
    known_made c.args.self.now.study.now c.args.row c.index-rows-row.result c.of.result
    c.the_last_look_sees_most.ensures here (returns-clause-known g c c.index-rows-row.result here)

pub of-requires-clause-ends : goal.of-requires-clause-ends
of-requires-clause-ends = grind arith
