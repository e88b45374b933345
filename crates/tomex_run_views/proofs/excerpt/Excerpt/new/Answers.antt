-- The value that is kept is an excerpt.
use Rattle.tomex_run_views.proofs.Excerpts.{kept}
use Rattle.tomex_run_views.proofs.excerpt.Excerpt.new.Goals as goal

pub invariant_of-result : goal.invariant_of-result
invariant_of-result g c =
    kept c.args.number c.args.count c.steps-steps.result.now c.part_of.result.now c.in_ok-run_times.run_times.items
    c.requires.number c.ranges.number.fits c.if-steps-number.false (rw c.steps-steps.ensures c.requires.few)
    c.in_ok-run_times.ensures.pairs c.in_ok-run_times.ensures.bound c.part_of.ensures
