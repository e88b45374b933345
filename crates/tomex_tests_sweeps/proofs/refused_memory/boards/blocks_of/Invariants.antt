use Rattle.std.proofs.Common.{map}
use Rattle.tomex_tests_sweeps.proofs.refused_memory.boards.blocks_of.Given as goal

abbrev pub ghosts-blocks_of_board : goal.ghosts-blocks_of_board
ghosts-blocks_of_board a = record { costs = a.costs.now; cycles = map (λ _. 1) a.costs.now }
