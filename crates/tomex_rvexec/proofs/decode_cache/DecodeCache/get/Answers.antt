use Rattle.std.proofs.lemmas.Grind.{common_steps}
use Rattle.std.proofs.Common.{arith, rules}
use Rattle.tomex_rvexec.proofs.decode_cache.DecodeCache.get.Goals as goal

pub returns-in-Some-clause-value : goal.returns-in-Some-clause-value
returns-in-Some-clause-value c = grind (arith, common_steps)

pub returns-in-Some-clause-of_image : goal.returns-in-Some-clause-of_image
returns-in-Some-clause-of_image c = search rules fits 400
