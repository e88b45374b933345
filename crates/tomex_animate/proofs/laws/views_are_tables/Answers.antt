-- The steps of a page are the history of the run, and stations have low numbers.
use Rattle.tomex_animate.proofs.Runs.{busy_stations_have_rows, entries_are_the_history}
use Rattle.tomex_animate.proofs.laws.views_are_tables.Goals as goal

pub returns-clause-history : goal.returns-clause-history
returns-clause-history c = entries_are_the_history

pub returns-clause-stations : goal.returns-clause-stations
returns-clause-stations c = busy_stations_have_rows
