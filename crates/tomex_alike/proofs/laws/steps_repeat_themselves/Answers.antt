-- Each time is the first cycle that passes a test, and the tests pass as far after the first issues.
use Rattle.tomex_alike.proofs.Blocks.{steps_repeat}
use Rattle.tomex_alike.proofs.laws.steps_repeat_themselves.Goals as goal

pub returns : goal.returns
returns c = steps_repeat
