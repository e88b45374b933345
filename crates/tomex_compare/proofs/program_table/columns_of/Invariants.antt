-- The columns so far.
use Rattle.std.proofs.Common.{◌≡◌, map, take}
use Rattle.tomex_compare.specs.ProgramTable.{all_headings, heading_column}
use Rattle.tomex_compare.proofs.program_table.columns_of.Given as goal

abbrev pub invariant-loop-heading : goal.invariant-loop-heading
invariant-loop-heading l = l.columns.items ≡ map (heading_column l.old l.new) (take l.heading-index all_headings)
