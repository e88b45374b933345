use Rattle.std.proofs.Common.{◌+◌, ◌-◌, ◌*◌}
use Rattle.tomex_cut.specs.Writing.{Rewrites}
use Rattle.tomex_cut.proofs.Written.{HasPairs}
use Rattle.tomex_cut.proofs.prologue.write_place.Given as goal

abbrev pub invariant-loop-register : goal.invariant-loop-register
invariant-loop-register g l = record {
  pairs : HasPairs l.memory l.at l.register l.registers;
  others : Rewrites l.at (l.at + 8 * (l.register - 1)) l.fn.memory l.memory;
}
