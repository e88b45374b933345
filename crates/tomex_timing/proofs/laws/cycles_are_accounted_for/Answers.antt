-- Each cycle of a wait is charged once, and the waits to issue follow one another.
use Rattle.tomex_timing.proofs.Accounts.{issue_cycles, station_cycles}
use Rattle.tomex_timing.proofs.laws.cycles_are_accounted_for.Goals as goal

pub returns : goal.returns
returns c = record { issue = issue_cycles; station = station_cycles }
