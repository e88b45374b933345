-- The signs of a link, one cycle more.
use Rattle.std.proofs.Common.{◌≡◌, ◌∙◌, ap, sym, arith, ℕ, suc, ◌+◌, ◌-◌, ◌≤◌, List, ◌++◌, append_assoc}
use Rattle.std.specs.List.{flat_map, range_with_len}
use Rattle.tomex_timing.specs.declared.times.Times.{Times}
use Rattle.tomex_run_views.specs.Chart.{sign_in}

module _ (at : Times) (to : ℕ) where
  abbrev pub from : ℕ → List ℕ
  from t = flat_map (sign_in at) (range_with_len t (to + 1 - t))

  next_sign : (t : ℕ) → t ≤ to → from t ≡ sign_in at t ++ from (t + 1)
  next_sign t within =
      let e : to + 1 - t ≡ suc (to + 1 - (t + 1)) = omega arith in
      ap (λ (n : ℕ). flat_map (sign_in at) (range_with_len t n)) e

  pub sign_more : (t : ℕ) (before after whole : List ℕ) → t ≤ to → after ≡ before ++ sign_in at t
      → before ++ from t ≡ whole → after ++ from (t + 1) ≡ whole
  sign_more t before after whole within grown so_far =
      ap (λ (z : List ℕ). z ++ from (t + 1)) grown
      ∙ (append_assoc before (sign_in at t) (from (t + 1))
      ∙ (ap (λ (z : List ℕ). before ++ z) (sym (next_sign t within)) ∙ so_far))
