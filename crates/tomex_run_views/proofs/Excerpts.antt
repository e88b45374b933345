-- A part of a run's times ends within the run's total, and is as long as the same part of its steps.
use Rattle.std.proofs.Common.{◌≡◌, ◌∙◌, ap, sym, arith, ℕ, zero, suc, ◌-◌, ◌*◌, ◌<◌, ◌≤◌}
use Rattle.std.proofs.Common.{List, [], ◌∷◌, drop, length, length-drop, take}
use Rattle.std.specs.Prelude.{min}
use Rattle.std.proofs.lemmas.List.{length-take}
use Rattle.tomex_rvexec.specs.declared.step.Step.{Step}
use Rattle.tomex_timing.specs.Search.{total_of}
use Rattle.tomex_timing.specs.declared.times.Times.{Times}
use Rattle.tomex_run_views.specs.Excerpt.{IsExcerpt}

-- the greatest end of some steps is no later than that of all
total_take : (n : ℕ) (times : List Times) → total_of (take n times) ≤ total_of times
total_take zero times = omega arith
total_take (suc n) [] = omega arith
total_take (suc n) (at ∷ times) = omega (arith, total_take n times)

total_drop : (n : ℕ) (times : List Times) → total_of (drop n times) ≤ total_of times
total_drop zero times = omega arith
total_drop (suc n) [] = omega arith
total_drop (suc n) (at ∷ times) = omega (arith, total_drop n times)

-- the length of a part
part_length : {X : Type 0} (n k : ℕ) (xs part : List X) → part ≡ take n (drop k xs)
    → length part ≡ min n (length xs - k)
part_length n k xs part is = ap length is ∙ (length-take n (drop k xs) ∙ ap (min n) (length-drop k xs))

-- the value that is kept is an excerpt: the parts of the steps and of the times begin at the same number
pub kept : (number count : ℕ) (run part : List Step) (times : List Times) → 0 < number → number < 4294967296
    → number ≤ length run → length run ≤ 262144 → length times ≡ length run → total_of times ≤ 67 * length run
    → part ≡ take count (drop (number - 1) run)
    → (number - 1 ≤ length times)
    × IsExcerpt (record { number = number; steps = part; times = take count (drop (number - 1) times) })
kept number count run part times some low there few pairs bound is = (
  omega (arith, there, pairs),
  record {
    number = some;
    pairs = length-take count (drop (number - 1) times) ∙ (ap (min count) (length-drop (number - 1) times)
        ∙ (ap (λ (n : ℕ). min count (n - (number - 1))) pairs
        ∙ sym (part_length count (number - 1) run part is)));
    short = omega (arith, part_length count (number - 1) run part is, few);
    numbers = low;
    bound = omega (arith, total_take count (drop (number - 1) times), total_drop (number - 1) times, bound, few);
  },
)

-- a part from the first step on is an excerpt too, even of a run without steps
pub kept_first : (count : ℕ) (run part : List Step) (times : List Times) → length run ≤ 262144
    → length times ≡ length run → total_of times ≤ 67 * length run → part ≡ take count (drop 0 run)
    → (1 - 1 ≤ length times)
    × IsExcerpt (record { number = 1; steps = part; times = take count (drop (1 - 1) times) })
kept_first count run part times few pairs bound is = (
  omega arith,
  record {
    number = omega arith;
    pairs = omega (arith, length-take count times, pairs, part_length count 0 run part is);
    short = omega (arith, part_length count 0 run part is, few);
    numbers = omega arith;
    bound = omega (arith, total_take count times, bound, few);
  },
)
