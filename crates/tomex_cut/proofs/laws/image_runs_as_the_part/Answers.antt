use Rattle.tomex_cut.proofs.Replay.{replays}
use Rattle.tomex_cut.proofs.laws.image_runs_as_the_part.Goals as goal

pub returns : goal.returns
returns c = replays
