use Rattle.std.proofs.Common.{rules}
use Rattle.tomex_command.proofs.failure.Failure.status.Goals as goal

pub returns-in-NoSuchRow : goal.returns-in-NoSuchRow
returns-in-NoSuchRow c = search rules fits 100

pub returns-in-NoSuchRow-2 : goal.returns-in-NoSuchRow-2
returns-in-NoSuchRow-2 c = search rules fits 100

pub returns-in-NoSuchStep : goal.returns-in-NoSuchStep
returns-in-NoSuchStep c = search rules fits 100

pub returns-in-NoSuchStep-2 : goal.returns-in-NoSuchStep-2
returns-in-NoSuchStep-2 c = search rules fits 100
