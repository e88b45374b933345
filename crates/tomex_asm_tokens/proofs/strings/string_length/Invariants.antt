-- What is counted, and what is left, are all.
use Rattle.std.proofs.Common.{◌≡◌, ◌+◌, ◌≤◌, length}
use Rattle.tomex_asm_tokens.specs.Strings.{bytes_from}
use Rattle.tomex_asm_tokens.proofs.Meant.{meant}
use Rattle.tomex_asm_tokens.proofs.strings.string_length.Given as goal

abbrev pub invariant-loop-place : goal.invariant-loop-place
invariant-loop-place l =
    record {
      few : l.count ≤ l.place;
      all : l.count + length (meant l.next l.place l.inner) ≡ length (bytes_from 0 l.inner);
    }
