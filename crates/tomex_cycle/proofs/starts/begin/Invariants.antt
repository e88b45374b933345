use Rattle.tomex_cycle.proofs.Words.{has, IsTimetableOf, AllCanBegin, AreLow, slot, ℕ, ◌≡◌, ◌<◌, length, true}
use Rattle.tomex_cycle.proofs.StartsBegun.{IsBegun}
use Rattle.tomex_cycle.proofs.starts.begin.Given as goal

-- all except the rest have started, and the rest is as before
abbrev pub invariant-members : goal.invariant-members
invariant-members g l = record {
  begun : length l.initial.pools.slots ≡ 96 → AreLow l.picked → AllCanBegin l.memory l.picked l.initial.pools.slots
      → IsBegun l.config l.cycle l.memory l.picked l.rest l.initial.pools l.pools;
  known : IsTimetableOf l.pools.slots l.cycle l.finishes;
  kept : (x : ℕ) → x < 128 → has l.rest x ≡ true → slot l.pools.slots x ≡ slot l.initial.pools.slots x;
  inside : (x : ℕ) → x < 128 → has l.rest x ≡ true → has l.picked x ≡ true;
}

abbrev pub decreases-members : goal.decreases-members
decreases-members g l = l.rest
