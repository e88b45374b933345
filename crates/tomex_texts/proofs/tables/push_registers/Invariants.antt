-- The text so far, and the lines of the remaining registers.
use Rattle.std.proofs.Common.{◌≡◌, ◌++◌, drop}
use Rattle.std.specs.Prelude.{string_bytes}
use Rattle.tomex_texts.specs.TablesText.{register_lines}
use Rattle.tomex_texts.proofs.tables.push_registers.Given as goal

abbrev pub invariant-loop-register : goal.invariant-loop-register
invariant-loop-register g l =
    string_bytes l.text ++ register_lines l.register (drop l.register l.registers)
    ≡ string_bytes l.fn.text ++ register_lines 0 l.registers
