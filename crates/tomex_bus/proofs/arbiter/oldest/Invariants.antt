use Rattle.std.proofs.Common.{ℕ, ◌≡◌, ◌<◌, ◌≤◌, true, slice_index, ◌⊎◌}
use Rattle.tomex_bus.specs.Sets.{has}
use Rattle.tomex_bus.proofs.arbiter.oldest.Given as goal

-- no visited member is older
abbrev pub invariant-members : goal.invariant-members
invariant-members l = record {
  below : l.best < 128;
  member : has l.set l.best ≡ true;
  rest : (i : ℕ) → i < 128 → has l.rest i ≡ true → has l.set i ≡ true;
  least : (i : ℕ) → i < 128 → has l.set i ≡ true → (has l.rest i ≡ true)
      ⊎ (slice_index l.issue_numbers l.best ≤ slice_index l.issue_numbers i);
}

abbrev pub decreases-members : goal.decreases-members
decreases-members l = l.rest
