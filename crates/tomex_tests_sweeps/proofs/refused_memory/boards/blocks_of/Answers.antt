use Rattle.std.proofs.Common.{rules}
use Rattle.tomex_tests_sweeps.proofs.BoardPlans.{ones_plan}
use Rattle.tomex_tests_sweeps.proofs.refused_memory.boards.blocks_of.Goals as goal

pub blocks_of_board-requires-clause-plan : goal.blocks_of_board-requires-clause-plan
blocks_of_board-requires-clause-plan c = ones_plan c.args.costs.now (search rules) (search rules)
