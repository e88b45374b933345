-- The history grows at its head.
use Rattle.tomex_timing.proofs.Histories.{younger_change_nothing}
use Rattle.tomex_timing.proofs.laws.younger_steps_change_nothing.Goals as goal

pub returns : goal.returns
returns c = younger_change_nothing
