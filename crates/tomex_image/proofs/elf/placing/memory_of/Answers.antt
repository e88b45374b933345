-- Short searches, so that a wrong body is soon refused.
use Rattle.std.proofs.Common.{arith}
use Rattle.std.proofs.lemmas.Grind.{common_steps}
use Rattle.tomex_image.proofs.elf.placing.memory_of.Goals as goal

pub loop-left-init : goal.loop-left-init
loop-left-init g c = grind (arith, common_steps)

pub loop-left-preserved : goal.loop-left-preserved
loop-left-preserved = grind (arith, common_steps)

pub place-requires-clause-fits : goal.place-requires-clause-fits
place-requires-clause-fits = grind (arith, common_steps)
