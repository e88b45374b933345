use Rattle.std.proofs.Common.{rules}
use Rattle.tomex_tests_sweeps.proofs.BoardPlans.{ones_plan}
use Rattle.tomex_tests_sweeps.proofs.boards.threads.each_row_is_claimed_once.Goals as goal

pub won_by_both-requires-clause-plan : goal.won_by_both-requires-clause-plan
won_by_both-requires-clause-plan g c κs = ones_plan c.as_slice.result.now (search rules) (search rules)
