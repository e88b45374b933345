-- The keys so far.
use Rattle.std.proofs.Common.{◌≡◌, map, take}
use Rattle.tomex_functions.specs.Functions.{key_of}
use Rattle.tomex_functions.proofs.index.keys_of.Given as goal

abbrev pub invariant-loop-function : goal.invariant-loop-function
invariant-loop-function g l = l.keys.items ≡ map key_of (take l.function-index l.functions)
