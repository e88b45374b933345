-- The marks are all judged: nothing is left to gather, and their front is the study's.
use Rattle.std.proofs.Common.{◌∙◌}
use Rattle.tomex_sweep.proofs.Gathered.{none_left}
use Rattle.tomex_sweep.proofs.Verdicts.{judged_front}
use Rattle.tomex_sweep.proofs.exploring.explore_on.Goals as goal

pub close_rest-requires-clause-count : goal.close_rest-requires-clause-count
close_rest-requires-clause-count g c = c.in_ok-marks.ensures.count

pub close_rest-requires-clause-lawful : goal.close_rest-requires-clause-lawful
close_rest-requires-clause-lawful g c = c.in_ok-marks.ensures.lawful

pub returns : goal.returns
returns g c = record {
  marks = c.in_ok-gathered.ensures.judged;
  front = judged_front c.args.study.now _ _ _ c.keeps_limits.ensures c.in_ok-gathered.ensures.judged
      c.as_slice.ensures.value c.costs-costs.ensures.value c.in_ok-front.ensures;
  gathered = c.in_ok-gathered.ensures.counted ∙ none_left _ c.in_ok-marks.ensures.closed;
}
