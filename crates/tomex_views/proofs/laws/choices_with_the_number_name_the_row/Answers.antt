use Rattle.tomex_views.proofs.Naming.{choices_name}
use Rattle.tomex_views.proofs.laws.choices_with_the_number_name_the_row.Goals as goal

pub returns : goal.returns
returns c = choices_name
