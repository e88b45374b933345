-- The steps so far, and those that are left.
use Rattle.std.proofs.Common.{◌≡◌, ◌-◌, ◌<◌, ◌++◌, ℕ, drop, get_or, length, reverse}
use Rattle.std.specs.BTreeMap.{get}
use Rattle.std.specs.Ordering.{nat_cmp}
use Rattle.tomex_rvexec.specs.declared.step.Step.{Step}
use Rattle.tomex_loops.specs.declared.coming.Coming.{Coming}
use Rattle.tomex_loops.specs.Calls.{comings_after, comings_of}
use Rattle.tomex_loops.specs.Places.{known_place}
use Rattle.tomex_loops.proofs.coming.comings.Given as goal

abbrev pub invariant-loop-k : goal.invariant-loop-k
invariant-loop-k g l = record {
  places : (a : ℕ) → get nat_cmp l.places a ≡ known_place l.steps l.k a;
  many : length l.result.items ≡ l.k;
  within : (j : ℕ) (z : Coming) → j < length l.result.items
      → (get_or l.result.items j z).place < length l.steps;
  all : (z : Step) → comings_of l.steps ≡ l.result.items
      ++ comings_after l.steps (reverse l.awaited.items) (get_or l.steps (l.k - 1) z) (drop l.k l.steps);
}
