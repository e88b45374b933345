use Rattle.std.proofs.Common.{rules, arith}
use Rattle.std.proofs.lemmas.Grind.{common_steps}
use Rattle.tomex_workers.proofs.desk.Desk.try_row.Goals as goal

pub returns-clause-hand : goal.returns-clause-hand
returns-clause-hand g c = search rules fits 100

pub run_row-requires-clause-hand : goal.run_row-requires-clause-hand
run_row-requires-clause-hand g c = search rules fits 100

pub returns-clause-not_open : goal.returns-clause-not_open
returns-clause-not_open g c = grind (arith, common_steps)
