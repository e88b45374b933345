-- The bytes so far are no zeros.
use Rattle.std.proofs.Common.{◌≡◌, ◌++◌, take, drop}
use Rattle.tomex_symbols.specs.Names.{until_zero}
use Rattle.tomex_symbols.proofs.naming.before_zero.Given as goal

abbrev pub invariant-loop-length : goal.invariant-loop-length
invariant-loop-length l = until_zero l.bytes ≡ take l.length l.bytes ++ until_zero (drop l.length l.bytes)
