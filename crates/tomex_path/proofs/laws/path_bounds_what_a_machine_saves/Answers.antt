-- The laws are the lemmas.
use Rattle.tomex_path.proofs.Bounds.{bound_is_least, path_is_bound, unused_saves_nothing}
use Rattle.tomex_path.proofs.laws.path_bounds_what_a_machine_saves.Goals as goal

pub returns-clause-bound : goal.returns-clause-bound
returns-clause-bound c = path_is_bound

pub returns-clause-least : goal.returns-clause-least
returns-clause-least c = bound_is_least

pub returns-clause-unused : goal.returns-clause-unused
returns-clause-unused c = unused_saves_nothing
