-- The law is the lemma.
use Rattle.tomex_path.proofs.Works.{events_are_held}
use Rattle.tomex_path.proofs.laws.events_are_held.Goals as goal

pub returns : goal.returns
returns c = events_are_held
