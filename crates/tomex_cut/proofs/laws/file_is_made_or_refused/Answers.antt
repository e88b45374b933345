use Rattle.tomex_cut.proofs.First.{made, one_refusal}
use Rattle.tomex_cut.proofs.laws.file_is_made_or_refused.Goals as goal

pub returns-clause-made : goal.returns-clause-made
returns-clause-made c = made

pub returns-clause-refused : goal.returns-clause-refused
returns-clause-refused c = one_refusal
