-- Short searches, so that a wrong body is soon refused.
use Rattle.std.proofs.Common.{rules, arith}
use Rattle.std.proofs.lemmas.Grind.{common_steps}
use Rattle.tomex_image.proofs.flat.load_flat.Goals as goal

pub returns-in_err-memory-clause-err : goal.returns-in_err-memory-clause-err
returns-in_err-memory-clause-err g c = search rules fits 100

pub returns-clause-placed : goal.returns-clause-placed
returns-clause-placed g c = search rules fits 100

pub returns-clause-passed : goal.returns-clause-passed
returns-clause-passed g c = search rules fits 100

pub new-requires : goal.new-requires
new-requires = grind (arith, common_steps)
