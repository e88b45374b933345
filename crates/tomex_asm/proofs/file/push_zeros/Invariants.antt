-- The zeros so far.
use Rattle.std.proofs.Common.{◌≡◌, ◌++◌, ◌≤◌, replicate}
use Rattle.tomex_asm.proofs.file.push_zeros.Given as goal

abbrev pub invariant-loop : goal.invariant-loop
invariant-loop g l =
    record {
      within : l.counter ≤ l.count;
      bytes : l.file.items ≡ l.fn.file.items ++ replicate l.counter 0;
    }
