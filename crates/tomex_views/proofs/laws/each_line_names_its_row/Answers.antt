use Rattle.tomex_views.proofs.Naming.{line_names}
use Rattle.tomex_views.proofs.laws.each_line_names_its_row.Goals as goal

pub returns : goal.returns
returns c = line_names
