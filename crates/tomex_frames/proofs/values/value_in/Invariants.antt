-- No step so far reads or writes the register.
use Rattle.std.proofs.Common.{◌≡◌, drop}
use Rattle.tomex_frames.specs.Values.{value_in}
use Rattle.tomex_frames.proofs.values.value_in.Given as goal

abbrev pub invariant-loop-step : goal.invariant-loop-step
invariant-loop-step l = value_in l.last l.register (drop l.step-index l.later) ≡ value_in l.last l.register l.later
