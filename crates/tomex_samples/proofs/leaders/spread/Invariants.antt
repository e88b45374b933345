use Rattle.std.proofs.Common.{◌≡◌, ℕ, ◌-◌, List, [], ◌∷◌, length}
use Rattle.tomex_samples.specs.Leaders.{and_farthest}
use Rattle.tomex_samples.specs.Near.{AreNearest}
use Rattle.tomex_samples.specs.Stretches.{Run}
use Rattle.tomex_samples.specs.Tallied.{AreOf}
use Rattle.tomex_samples.proofs.leaders.spread.Given as goal

abbrev pub invariant-loop-more : goal.invariant-loop-more
invariant-loop-more g l = record {
  number : length l.near.items ≡ length l.stretches.parts.items;
  nearest : (run : Run) → AreOf run l.stretches → AreNearest run l.leaders.items l.near.items;
  rest : (run : Run) → AreOf run l.stretches
      → and_farthest run (7 - l._more) l.leaders.items ≡ and_farthest run 7 (l.first ∷ []);
  starts : (others : List ℕ) × (l.leaders.items ≡ l.first ∷ others);
}
