-- The zeros so far.
use Rattle.std.proofs.Common.{◌≡◌, ◌++◌, ◌≤◌, replicate}
use Rattle.tomex_asm_words.proofs.writing.push_zeros.Given as goal

abbrev pub invariant-loop : goal.invariant-loop
invariant-loop g l =
    record {
      within : l.counter ≤ l.count;
      bytes : l.bytes.items ≡ l.fn.bytes.items ++ replicate l.counter 0;
    }
