-- The heads so far.
use Rattle.std.proofs.Common.{◌≡◌, ◌<◌, ℕ, false, get_or, length}
use Rattle.tomex_loops.specs.Loops.{heads_below}
use Rattle.tomex_loops.proofs.forest.numbers_of.Given as goal

abbrev pub invariant-loop-is_head : goal.invariant-loop-is_head
invariant-loop-is_head g l = record {
  many : length l.numbers.items ≡ l.is_head-index;
  count : l.count ≡ heads_below (λ y. get_or l.heads y false) l.is_head-index;
  numbers : (x : ℕ) → x < l.is_head-index
      → get_or l.numbers.items x 0 ≡ heads_below (λ y. get_or l.heads y false) x;
}
