use Rattle.std.proofs.Common.{sym, subst}
use Rattle.tomex_board.specs.declared.view.View.{View}
use Rattle.tomex_board.specs.Views.{HasTwo}
use Rattle.tomex_board.proofs.Shares.{newcomer_two}
use Rattle.tomex_tests_sweeps.proofs.boards.two_seats.Goals as goal

pub split-first-requires-clause-two : goal.split-first-requires-clause-two
split-first-requires-clause-two c = subst (λ (v : View). HasTwo v.share) (sym c.in_ok-board.ensures.1) newcomer_two
