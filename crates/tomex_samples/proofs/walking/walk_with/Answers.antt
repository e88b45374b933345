use Rattle.std.proofs.Common.{◌∙◌, ap}
use Rattle.std.specs.Prelude.{◌/◌, replicate}
use Rattle.tomex_samples.proofs.walking.walk_with.Goals as goal

pub tally_run-requires-clause-base : goal.tally_run-requires-clause-base
tally_run-requires-clause-base g c = c.in_ok-uses.ensures.base ∙ ap (λ w. w.base) c.window-window.ensures.value

pub tally_run-requires-clause-unused : goal.tally_run-requires-clause-unused
tally_run-requires-clause-unused g c =
    c.in_ok-uses.ensures.numbers ∙ ap (λ w. replicate (w.size / 4) 0) c.window-window.ensures.value

pub tally_run-requires-clause-counts : goal.tally_run-requires-clause-counts
tally_run-requires-clause-counts g c =
    c.in_ok-tally.ensures.counts ∙ ap (λ w. replicate (w.size / 4) 0) c.window-window.ensures.value

pub returns-clause-ok : goal.returns-clause-ok
returns-clause-ok g c =
    let made = c.into_stretches.ensures in
    c.in_ok-tally_run.ensures.ok c.into_stretches.result made.steps made.words made.rows made.parts
