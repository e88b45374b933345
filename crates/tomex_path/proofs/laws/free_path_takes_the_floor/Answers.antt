-- The laws are the lemmas.
use Rattle.tomex_path.proofs.FreePaths.{free_is_floor, free_is_least, free_is_wider_floor}
use Rattle.tomex_path.proofs.laws.free_path_takes_the_floor.Goals as goal

pub returns-clause-least : goal.returns-clause-least
returns-clause-least c = free_is_least

pub returns-clause-floor : goal.returns-clause-floor
returns-clause-floor c = free_is_floor

pub returns-clause-wider : goal.returns-clause-wider
returns-clause-wider c = free_is_wider_floor
