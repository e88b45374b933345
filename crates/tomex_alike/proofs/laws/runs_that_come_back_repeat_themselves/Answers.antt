-- By induction over the steps ahead; what they take and wait for again is part of the history already.
use Rattle.tomex_alike.proofs.Runs.{runs_ask_for_nothing_new, runs_repeat}
use Rattle.tomex_alike.proofs.laws.runs_that_come_back_repeat_themselves.Goals as goal

pub returns : goal.returns
returns c = record { cycles = runs_repeat; parts = runs_ask_for_nothing_new }
