-- What was counted by the waits of the run.
use Rattle.std.proofs.Common.{◌∙◌}
use Rattle.tomex_run_views.proofs.Reports.{counted_is}
use Rattle.tomex_run_views.proofs.counted.count_run.Goals as goal

pub returns-clause-counted : goal.returns-clause-counted
returns-clause-counted g c = λ key are.
    counted_is key c.args.config.now c.args.steps.now _ _ c.keeps_limits.ensures
    (c.as_slice-2.ensures.value ∙ c.in_ok-waits.ensures.exact) (c.in_ok-tally.ensures.counted key are)
    c.drain_of-drain.ensures.value
