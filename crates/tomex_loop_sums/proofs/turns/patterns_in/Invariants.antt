-- What the rounds of the visits so far repeat.
use Rattle.std.proofs.Common.{ℕ, ◌≡◌, ◌<◌, None, length, map, slice_index_or}
use Rattle.std.specs.Option.{option_map}
use Rattle.tomex_loop_sums.specs.Columns.{RepeatsOf}
use Rattle.tomex_loop_sums.proofs.turns.patterns_in.Given as goal

abbrev pub invariant-loop-visit : goal.invariant-loop-visit
invariant-loop-visit g l = record {
  count : length l.patterns.items ≡ l.visit-index;
  patterns : (n : ℕ) → n < l.visit-index → RepeatsOf (map (λ group. group.items) l.rounds)
      (slice_index_or l.visits n None) (option_map (λ c. c.items) (slice_index_or l.patterns.items n None));
}
