use Rattle.std.proofs.Common.{rules}
use Rattle.tomex_rvdec.proofs.decoding.branch_of.Goals as goal

pub returns-in-6-clause-some : goal.returns-in-6-clause-some
returns-in-6-clause-some c = search rules fits 100
