-- One piece after another.
use Rattle.std.proofs.lemmas.Result.{on_ok_weaker}
use Rattle.tomex_texts.proofs.StepRecords.{step_added}
use Rattle.tomex_texts.proofs.times.push_step.Goals as goal

pub returns-clause-text : goal.returns-clause-text
returns-clause-text g c =
    on_ok_weaker c.push_times.result
    (step_added c.args.text.now.items _ _ _ c.args.number c.args.step.now c.args.at.now c.ranges.number.fits
    c.times_are_small.ensures c.in_ok-push_digits.ensures c.in_ok-push_place.ensures.text)
    c.push_times.ensures
