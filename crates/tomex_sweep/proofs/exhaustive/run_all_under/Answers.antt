-- The front of the finished rows is the study's.
use Rattle.tomex_sweep.proofs.Verdicts.{as_many_marks, finished_front}
use Rattle.tomex_sweep.proofs.exhaustive.run_all_under.Goals as goal

pub returns-clause-front : goal.returns-clause-front
returns-clause-front g c =
    finished_front c.args.study.now _ _ _ c.keeps_limits.ensures c.in_ok-marks.ensures c.as_slice.ensures.value
    c.costs.ensures.value c.in_ok-front.ensures

pub front_of_finished-requires : goal.front_of_finished-requires
front_of_finished-requires g c =
    as_many_marks c.args.study.now _ _ _ c.keeps_limits.ensures c.in_ok-marks.ensures c.as_slice.ensures.value
    c.costs.ensures.value
