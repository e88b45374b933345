-- What is pushed, and the values that are left, are all.
use Rattle.std.proofs.Common.{◌≡◌, ◌≤◌, ◌*◌, []}
use Rattle.tomex_asm_numbers.specs.Indexed.{scope_of}
use Rattle.tomex_asm_words.specs.Words.{joined, values_from}
use Rattle.tomex_asm_words.proofs.Listing.{values_on}
use Rattle.tomex_asm_words.proofs.statements.push_values.Given as goal

abbrev pub invariant-loop-place : goal.invariant-loop-place
invariant-loop-place g l =
    record {
      order : l.start ≤ l.place;
      few : l.before ≤ 255 * l.place;
      all :
          joined l.bytes.items (values_on l.whole.frame l.position (scope_of l.whole.scope) l.line l.size l.before
          l.start l.place l.values)
          ≡ joined l.fn.bytes.items (values_from l.whole.frame l.position (scope_of l.whole.scope) l.line l.size 0 []
          l.values);
    }
