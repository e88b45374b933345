-- The texts so far, and those of the remaining registers.
use Rattle.std.proofs.Common.{◌≡◌, ◌++◌, drop, map}
use Rattle.std.specs.Prelude.{string_bytes}
use Rattle.tomex_texts.specs.FrontReport.{nonzero_from}
use Rattle.tomex_texts.proofs.end_texts.register_texts.Given as goal

abbrev pub invariant-loop-register : goal.invariant-loop-register
invariant-loop-register l = map string_bytes l.texts.items ++ nonzero_from l.register (drop l.register l.registers)
    ≡ nonzero_from 0 l.registers
