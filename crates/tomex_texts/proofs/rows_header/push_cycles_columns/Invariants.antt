-- The names for the programs so far.
use Rattle.std.proofs.Common.{◌≡◌, ◌++◌, [], map, take}
use Rattle.csv.specs.Records.{fields_of, partial_of}
use Rattle.tomex_texts.specs.RowsReport.{cycles_column}
use Rattle.tomex_texts.proofs.rows_header.push_cycles_columns.Given as goal

abbrev pub invariant-loop-program : goal.invariant-loop-program
invariant-loop-program g l = record {
  fields : fields_of l.fields ≡ fields_of l.fn.fields ++ map cycles_column (take l.program-index l.programs);
  whole : partial_of l.fields ≡ [];
}
