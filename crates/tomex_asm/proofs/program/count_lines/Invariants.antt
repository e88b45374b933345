-- The lines so far, and those of the bytes that are left.
use Rattle.std.proofs.Common.{◌≡◌, ◌+◌, ◌≤◌, drop}
use Rattle.tomex_asm.specs.Assembled.{count_lines}
use Rattle.tomex_asm.proofs.program.count_lines.Given as goal

abbrev pub invariant-loop-byte : goal.invariant-loop-byte
invariant-loop-byte l =
    record {
      few : l.count ≤ l.byte-index + 1;
      all : l.count + count_lines (drop l.byte-index l.text) ≡ count_lines l.text + 1;
    }
