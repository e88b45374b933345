-- By induction over the steps.
use Rattle.tomex_loops.proofs.EachRun.{loops_are_sound}
use Rattle.tomex_loops.proofs.laws.loops_are_sound.Goals as goal

pub returns : goal.returns
returns c = loops_are_sound
