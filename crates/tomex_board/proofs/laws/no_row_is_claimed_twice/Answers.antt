use Rattle.tomex_board.proofs.Claims.{unnoted}
use Rattle.tomex_board.proofs.laws.no_row_is_claimed_twice.Goals as goal

pub returns-clause-hands : goal.returns-clause-hands
returns-clause-hands c costs cycles s a b v w i o = o.alone a b v w i

pub returns-clause-noted : goal.returns-clause-noted
returns-clause-noted c costs cycles s a v i o at noted open-row =
    unnoted costs cycles s.words i v (o.known a v at) open-row noted
