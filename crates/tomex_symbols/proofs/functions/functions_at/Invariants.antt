-- The functions so far; the sweep is at the next address.
use Rattle.std.proofs.Common.{◌≡◌, ◌<◌, get_or, length, map, take}
use Rattle.tomex_symbols.specs.Functions.{function_at}
use Rattle.tomex_symbols.specs.Sweep.{IsSwept}
use Rattle.tomex_symbols.proofs.functions.functions_at.Given as goal

abbrev pub invariant-loop-pc : goal.invariant-loop-pc
invariant-loop-pc g l = record {
  swept : l.pc-index < length l.addresses → IsSwept l.symbols.items l.sweep.begun l.sweep.nested.items l.sweep.label
      l.sweep.latest (get_or l.addresses l.pc-index 0);
  items : l.functions.items ≡ map (function_at l.fn.symbols.items) (take l.pc-index l.addresses);
}
