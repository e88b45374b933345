-- The rows that are shown are rows of the front.
use Rattle.std.proofs.Common.{arith, get_or, subst, sym}
use Rattle.std.proofs.lemmas.Grind.{common_steps}
use Rattle.std.specs.List.{Contains}
use Rattle.tomex_pareto.specs.declared.front_row.FrontRow.{FrontRow}
use Rattle.tomex_study.specs.Study.{DesignSpace}
use Rattle.tomex_study.specs.StudyFront.{front_of_study}
use Rattle.tomex_page_rows.proofs.stays.ranges_of.Goals as goal

pub interval_of-requires-clause-front : goal.interval_of-requires-clause-front
interval_of-requires-clause-front g c =
    let none : FrontRow = record { row = 0; cost = 0; cycles = 0 } in
    let row : FrontRow = get_or c.args.shown.now c.loop-row.row-index none in
    let IsOnFront : DesignSpace → Type 0 = λ s. Contains (front_of_study s) row in
    subst IsOnFront (sym c.study-study.ensures) (c.requires c.loop-row.row-index none c.loop-row-test.true)

pub returns : goal.returns
returns = grind (arith, common_steps)

pub loop-row-preserved : goal.loop-row-preserved
loop-row-preserved = grind (arith, common_steps)
