use Rattle.std.proofs.Common.{rules}
use Rattle.tomex_rvdec.proofs.pool_table.pool_of.Goals as goal

pub returns : goal.returns
returns c = search rules fits 100
