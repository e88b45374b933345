use Rattle.std.proofs.Common.{rules}
use Rattle.tomex_rvdec.proofs.decoding.immediate_of.Goals as goal

pub returns-in-1-eq0-clause-some : goal.returns-in-1-eq0-clause-some
returns-in-1-eq0-clause-some c = search rules fits 100
