-- By the law of steps after histories that look alike, from the empty history on.
use Rattle.tomex_drained.proofs.Drained.{cycles_add_up, rest_is_later}
use Rattle.tomex_drained.proofs.laws.a_drained_beginning_adds_its_cycles.Goals as goal

pub returns : goal.returns
returns c = record { times = rest_is_later; total = cycles_add_up }
