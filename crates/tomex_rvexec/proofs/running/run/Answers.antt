use Rattle.std.proofs.Common.{rules}
use Rattle.tomex_rvexec.proofs.running.run.Goals as goal

pub returns-in-Ok-Ended-clause-ok : goal.returns-in-Ok-Ended-clause-ok
returns-in-Ok-Ended-clause-ok g c = search rules fits 100

pub returns-in-Err-clause-err : goal.returns-in-Err-clause-err
returns-in-Err-clause-err g c = search rules fits 100

pub returns-clause-err : goal.returns-clause-err
returns-clause-err g c = search rules fits 100
