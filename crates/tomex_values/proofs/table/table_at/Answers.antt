use Rattle.std.proofs.Common.{rules}
use Rattle.tomex_values.proofs.table.table_at.Goals as goal

pub returns-in-None-as_table : goal.returns-in-None-as_table
unfolding Rattle.tomex_values.specs.Table.table_at
returns-in-None-as_table c = search rules fits 100
