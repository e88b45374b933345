use Rattle.std.proofs.Common.{sym, subst}
use Rattle.tomex_board.specs.declared.view.View.{View}
use Rattle.tomex_board.specs.Views.{HasTwo}
use Rattle.tomex_board.proofs.Shares.{newcomer_two}
use Rattle.tomex_tests_sweeps.proofs.boards.threads.won_by_both.Goals as goal

pub split-a-requires-clause-two : goal.split-a-requires-clause-two
split-a-requires-clause-two g c = subst (λ (v : View). HasTwo v.share) (sym c.in_ok-board.ensures.1) newcomer_two
