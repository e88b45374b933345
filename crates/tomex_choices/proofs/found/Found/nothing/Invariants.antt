-- Nothing is found of the lists so far.
use Rattle.std.proofs.Common.{◌≡◌, [], All, length}
use Rattle.tomex_choices.proofs.found.Found.nothing.Given as goal

abbrev pub invariant-loop-place : goal.invariant-loop-place
invariant-loop-place g l = record {
  count : length l.lists.items ≡ l._place;
  none : All (λ f. (f.machines.items ≡ []) × (f.last_change ≡ 0)) l.lists.items;
}
