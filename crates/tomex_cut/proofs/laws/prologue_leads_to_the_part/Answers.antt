use Rattle.tomex_cut.proofs.Entry.{enters}
use Rattle.tomex_cut.proofs.laws.prologue_leads_to_the_part.Goals as goal

pub returns : goal.returns
returns c = enters
