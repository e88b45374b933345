-- Each place's loop has a lower number.
use Rattle.tomex_loops.proofs.Nest.{loops_are_a_nest}
use Rattle.tomex_loops.proofs.laws.loops_are_a_nest.Goals as goal

pub returns : goal.returns
returns c = loops_are_a_nest
