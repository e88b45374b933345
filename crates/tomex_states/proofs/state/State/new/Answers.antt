-- Before the first step nothing is held.
use Rattle.tomex_states.proofs.Nothing.{shows_nothing, window_none}
use Rattle.tomex_states.proofs.state.State.new.Goals as goal

pub returns : goal.returns
returns g c = λ config. record {
  held = rw c.new.ensures (shows_nothing config);
  window = rw c.none.ensures (window_none config);
}
