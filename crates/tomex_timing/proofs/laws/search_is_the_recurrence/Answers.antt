-- Each step's times by search are the least, and there are no others.
use Rattle.tomex_timing.proofs.Search.{timed_is, timed_of-same}
use Rattle.tomex_timing.proofs.laws.search_is_the_recurrence.Goals as goal

pub returns : goal.returns
returns c = record { function = timed_is; relation = timed_of-same }
