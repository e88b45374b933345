-- The laws are the lemmas.
use Rattle.tomex_path.proofs.PathStalls.{named_stall, path_within_stalls}
use Rattle.tomex_path.proofs.laws.path_waits_are_stalls.Goals as goal

pub returns-clause-sums : goal.returns-clause-sums
returns-clause-sums c = path_within_stalls

pub returns-clause-named : goal.returns-clause-named
returns-clause-named c = named_stall
