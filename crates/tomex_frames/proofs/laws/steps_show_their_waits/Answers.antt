-- A step's cycles lie in stretches, one after the other, in each of which its row says the same.
use Rattle.tomex_frames.proofs.Views.{steps_show_their_waits}
use Rattle.tomex_frames.proofs.laws.steps_show_their_waits.Goals as goal

pub returns : goal.returns
returns c = steps_show_their_waits
