use Rattle.std.proofs.Common.{rules}
use Rattle.tomex_rvdec.proofs.pool.PoolId.place.Goals as goal

pub returns-in-Load-clause-place : goal.returns-in-Load-clause-place
returns-in-Load-clause-place c = search rules fits 100

pub returns-in-Store-clause-place : goal.returns-in-Store-clause-place
returns-in-Store-clause-place c = search rules fits 100
