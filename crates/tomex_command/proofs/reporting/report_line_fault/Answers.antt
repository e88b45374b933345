use Rattle.std.proofs.Common.{rules, arith}
use Rattle.std.proofs.lemmas.Grind.{common_steps}
use Rattle.tomex_command.proofs.reporting.report_line_fault.Goals as goal

pub returns-clause-reported : goal.returns-clause-reported
returns-clause-reported g c = search rules fits 100

pub returns-clause-said : goal.returns-clause-said
returns-clause-said g c = grind (arith, common_steps)
