-- The loops are those that are defined.
use Rattle.tomex_loop_views.proofs.LoopLines.{these}
use Rattle.tomex_loop_views.proofs.report.loops_report.Goals as goal

pub table_with-requires-clause-loops : goal.table_with-requires-clause-loops
table_with-requires-clause-loops g c =
    let found = c.in_ok-loops.ensures in
    these c.args.run.now c.steps.result.now c.in_ok-loops.loops c.steps.ensures found.heads
    found.visits found.ends found.innermost found.here found.rounds
