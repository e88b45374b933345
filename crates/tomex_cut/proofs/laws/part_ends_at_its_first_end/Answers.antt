use Rattle.tomex_cut.proofs.First.{ends_first}
use Rattle.tomex_cut.proofs.laws.part_ends_at_its_first_end.Goals as goal

pub returns : goal.returns
returns c = ends_first
