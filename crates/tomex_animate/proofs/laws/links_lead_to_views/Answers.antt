-- A page's cycles follow each other.
use Rattle.tomex_animate.proofs.Linked.{links_lead_to_views, views_are_of_cycles}
use Rattle.tomex_animate.proofs.laws.links_lead_to_views.Goals as goal

pub returns-clause-views : goal.returns-clause-views
returns-clause-views c = views_are_of_cycles

pub returns-clause-links : goal.returns-clause-links
returns-clause-links c = links_lead_to_views
