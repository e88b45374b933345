-- The instructions so far.
use Rattle.std.proofs.Common.{◌≡◌, ◌++◌, ◌≤◌}
use Rattle.tomex_asm_words.specs.Words.{nops}
use Rattle.tomex_asm_words.proofs.writing.push_nops.Given as goal

abbrev pub invariant-loop : goal.invariant-loop
invariant-loop g l =
    record {
      within : l.counter ≤ l.count;
      bytes : l.bytes.items ≡ l.fn.bytes.items ++ nops l.counter;
    }
