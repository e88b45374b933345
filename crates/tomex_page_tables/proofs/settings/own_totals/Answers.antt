-- Several programs have a total each, and a single one has none.
use Rattle.tomex_page_tables.proofs.Programs.{no_totals, several_totals}
use Rattle.tomex_page_tables.proofs.settings.own_totals.Goals as goal

pub returns-then-programs-gt1 : goal.returns-then-programs-gt1
returns-then-programs-gt1 g c =
    several_totals c.args.surveyed.now _ _ c.args.row (rw c.study.ensures at c.programs.ensures.value)
    c.if-programs-gt1.true c.requires c.totals.ensures

pub returns-else-programs-gt1 : goal.returns-else-programs-gt1
returns-else-programs-gt1 g c =
    no_totals c.args.surveyed.now _ c.args.row (rw c.study.ensures at c.programs.ensures.value) c.if-programs-gt1.false
