-- A board can be made for the study.
use Rattle.tomex_sweep.proofs.Crewed.{board_plan}
use Rattle.tomex_tests_sweeps.proofs.alone.marks_on.Goals as goal

pub new-requires-clause-plan : goal.new-requires-clause-plan
new-requires-clause-plan g c = board_plan c.args.study.now _ _ c.keeps_limits.ensures c.requires
