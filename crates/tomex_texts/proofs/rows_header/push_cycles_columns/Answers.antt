-- One more program's column.
use Rattle.std.proofs.Common.{arith}
use Rattle.std.proofs.lemmas.Grind.{common_steps}
use Rattle.tomex_texts.specs.RowsReport.{cycles_column}
use Rattle.tomex_texts.proofs.Lines.{one_column}
use Rattle.tomex_texts.proofs.rows_header.push_cycles_columns.Goals as goal

pub loop-program-preserved : goal.loop-program-preserved
loop-program-preserved g c = record {
  fields = one_column cycles_column c.args.programs.now c.loop-program.program-index c.program-item.result _ _ _
      c.loop-program-test.true c.program-item.is c.loop-program.invariant.fields
      c.in_ok-push_cycles_column.ensures.fields;
  whole = c.in_ok-push_cycles_column.ensures.whole;
}

pub returns-clause-fields : goal.returns-clause-fields
returns-clause-fields = grind (arith, common_steps)
