use Rattle.std.proofs.Common.{map}
use Rattle.tomex_tests_sweeps.proofs.boards.threads.each_row_is_claimed_once.Given as goal

abbrev pub ghosts-won_by_both : goal.ghosts-won_by_both
ghosts-won_by_both g a = record { costs = a.costs.now; cycles = map (λ _. 1) a.costs.now }
