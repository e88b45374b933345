use Rattle.std.proofs.Common.{arith}
use Rattle.std.proofs.lemmas.Grind.{common_steps}
use Rattle.tomex_texts.proofs.times.text_of_times.Goals as goal

pub returns : goal.returns
returns g c = grind (arith, common_steps)
