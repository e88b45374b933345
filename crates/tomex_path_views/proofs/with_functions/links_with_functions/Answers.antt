-- The links with the function of each.
use Rattle.std.proofs.Common.{arith}
use Rattle.std.proofs.lemmas.Grind.{common_steps}
use Rattle.tomex_path_views.proofs.Reports.{links_with}
use Rattle.tomex_path_views.proofs.with_functions.links_with_functions.Goals as goal

pub returns : goal.returns
returns g c = links_with c.args.file.now c.args.config.now c.steps.result.now c.args.run.now c.in_ok-index.index _ _
    c.in_ok-index.ensures c.steps.ensures c.in_ok-path.ensures.times c.in_ok-path.ensures.exact
    c.text_of_links.result c.text_of_links.ensures

pub text_of_links-requires-clause-pairs : goal.text_of_links-requires-clause-pairs
text_of_links-requires-clause-pairs = grind (arith, common_steps)

pub text_of_links-requires-clause-steps : goal.text_of_links-requires-clause-steps
text_of_links-requires-clause-steps = grind (arith, common_steps)
