use Rattle.std.proofs.Common.{rules, arith}
use Rattle.std.proofs.lemmas.Grind.{common_steps}
use Rattle.tomex_timing.proofs.recent.Facts.of.Goals as goal

pub returns-clause-facts : goal.returns-clause-facts
returns-clause-facts c = search rules fits 100

pub returns-clause-range : goal.returns-clause-range
returns-clause-range = grind (arith, common_steps)
