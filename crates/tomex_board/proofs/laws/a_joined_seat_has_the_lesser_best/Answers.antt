use Rattle.tomex_board.proofs.Joining.{lesser_best}
use Rattle.tomex_board.proofs.laws.a_joined_seat_has_the_lesser_best.Goals as goal

pub returns : goal.returns
returns c = lesser_best
