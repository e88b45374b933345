-- Rows of a front stand in order, and their places rise.
use Rattle.tomex_page.proofs.Linked.{linked_rows_are_shown, links_lead_to_views, sections_are_views, views_are_apart}
use Rattle.tomex_page.proofs.Linked.{views_are_of_rows}
use Rattle.tomex_page.proofs.laws.links_lead_to_views.Goals as goal

pub returns-clause-sections : goal.returns-clause-sections
returns-clause-sections c = sections_are_views

pub returns-clause-rows : goal.returns-clause-rows
returns-clause-rows c = views_are_of_rows

pub returns-clause-links : goal.returns-clause-links
returns-clause-links c = links_lead_to_views

pub returns-clause-shown : goal.returns-clause-shown
returns-clause-shown c = linked_rows_are_shown

pub returns-clause-apart : goal.returns-clause-apart
returns-clause-apart c = views_are_apart
