use Rattle.std.proofs.Common.{rules}
use Rattle.tomex_rvdec.proofs.decoding.from_table.Goals as goal

pub returns-in_err-op-clause-none : goal.returns-in_err-op-clause-none
returns-in_err-op-clause-none c = search rules fits 100
