-- The value that is kept is an excerpt.
use Rattle.tomex_run_views.proofs.Excerpts.{kept_first}
use Rattle.tomex_run_views.proofs.excerpt.Excerpt.of_first.Goals as goal

pub invariant_of-result : goal.invariant_of-result
invariant_of-result g c =
    let is = c.steps.ensures in
    kept_first c.args.count c.steps.result.now c.part_of.result.now c.args.run_times.items
    (rw is c.requires.few) (rw is c.requires.times.pairs) (rw is c.requires.times.bound) c.part_of.ensures
