use Rattle.tomex_cut.proofs.Whole.{whole}
use Rattle.tomex_cut.proofs.laws.run_is_the_prologue_and_the_part.Goals as goal

pub returns : goal.returns
returns c = whole
