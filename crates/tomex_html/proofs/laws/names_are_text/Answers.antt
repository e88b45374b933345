-- Character by character.
use Rattle.tomex_html.proofs.Plain.{names_are_text}
use Rattle.tomex_html.proofs.laws.names_are_text.Goals as goal

pub returns : goal.returns
returns c = names_are_text
