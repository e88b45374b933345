-- What holds of every page.
use Rattle.tomex_page.proofs.Asked.{choices_are_added}
use Rattle.tomex_page.proofs.laws.choices_are_added.Goals as goal

pub returns : goal.returns
returns c = choices_are_added
