-- A number is written in one way.
use Rattle.tomex_html.proofs.Ids.{ids_are_apart, links_are_apart}
use Rattle.tomex_html.proofs.laws.ids_are_apart.Goals as goal

pub returns-clause-views : goal.returns-clause-views
returns-clause-views c = ids_are_apart

pub returns-clause-links : goal.returns-clause-links
returns-clause-links c = links_are_apart
