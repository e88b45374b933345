-- What holds an event is the last of the step's waits, and links follow each other.
use Rattle.tomex_frames.proofs.Framed.{line_is_the_wait_before}
use Rattle.tomex_frames.proofs.PathWords.{line_is_marked_where_it_changes}
use Rattle.tomex_frames.proofs.laws.line_is_the_wait_before.Goals as goal

pub returns-clause-wait : goal.returns-clause-wait
returns-clause-wait c = line_is_the_wait_before

pub returns-clause-marked : goal.returns-clause-marked
returns-clause-marked c = line_is_marked_where_it_changes
