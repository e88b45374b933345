-- The text so far is the lines of the registers that are done.
use Rattle.std.proofs.Common.{◌≡◌, ◌++◌, drop, string_bytes}
use Rattle.tomex_command.specs.RunText.{register_lines}
use Rattle.tomex_command.proofs.run.text_of_registers.Given as goal

abbrev pub invariant-loop-register : goal.invariant-loop-register
invariant-loop-register g l =
    string_bytes l.text ++ register_lines l.register-counter (drop l.register-counter l.registers)
    ≡ register_lines 0 l.registers
