-- A test of all places of lists, list by list: there are 13.
use Rattle.std.proofs.Common.{◌≡◌, ◌∙◌, ap, arith, sym, ℕ, suc, ◌+◌, ◌-◌, ◌<◌, Bool, true, false, ◌&&◌}
use Rattle.std.specs.List.{list_all, range_with_len}

abbrev from : (ℕ → Bool) → ℕ → Bool
from p k = list_all p (range_with_len k (13 - k))

-- the test of the first number, and that of the rest
all_next : (p : ℕ → Bool) (k : ℕ) → k < 13 → from p k ≡ (p k && from p (k + 1))
all_next p k within =
    let e : 13 - k ≡ suc (13 - (k + 1)) = omega (arith, within) in
    ap (λ (n : ℕ). list_all p (range_with_len k n)) e

-- one that fails
pub all_fails : (p : ℕ → Bool) (k : ℕ) (b whole : Bool) → k < 13 → b ≡ p k → b ≡ false → from p k ≡ whole
    → false ≡ whole
all_fails p k b whole within is fails so_far =
    ap (λ (x : Bool). x && from p (k + 1)) (sym fails ∙ is) ∙ (sym (all_next p k within) ∙ so_far)

-- one that holds
pub all_holds : (p : ℕ → Bool) (k : ℕ) (b whole : Bool) → k < 13 → b ≡ p k → b ≡ true → from p k ≡ whole
    → from p (k + 1) ≡ whole
all_holds p k b whole within is holds so_far =
    ap (λ (x : Bool). x && from p (k + 1)) (sym holds ∙ is) ∙ (sym (all_next p k within) ∙ so_far)

-- all of them
pub all_hold : (p : ℕ → Bool) (k : ℕ) (whole : Bool) → k ≡ 13 → from p k ≡ whole → true ≡ whole
all_hold p k whole last so_far = ap (from p) (sym last) ∙ so_far
