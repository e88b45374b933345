-- The table of the sets of one number.
use Rattle.std.proofs.Common.{ℕ, zero, suc, ◌+◌, ◌^◌, ◌%◌, ◌*◌, ◌<◌, ◌≡◌, Bool, true, arith, List, [], ◌∷◌, length}
use Rattle.std.proofs.Common.{slice_index_or}
use Rattle.std.specs.Prelude.{◌==◌, ◌&&◌}
use Rattle.std.proofs.lemmas.Nat.{pow_below}
use Rattle.std.proofs.lemmas.Bool.{and_parts, eqb-true}

-- each is the next power of two, from this one on
abbrev pub are_powers : List ℕ → ℕ → Bool
are_powers [] k = true
are_powers (x ∷ xs) k = (x == 2 ^ k) && are_powers xs (suc k)

pub power_at : (xs : List ℕ) (k n : ℕ) → are_powers xs k ≡ true → n < length xs → slice_index_or xs n 0 ≡ 2 ^ (k + n)
power_at [] k n e l = absurd (omega arith)
power_at (x ∷ xs) k zero e l = let f : k + 0 ≡ k = omega arith in
    rw f (eqb-true x (2 ^ k) (and_parts (x == 2 ^ k) (are_powers xs (suc k)) e).0)
power_at (x ∷ xs) k (suc n) e l = let f : k + suc n ≡ suc k + n = omega arith in
    rw f (power_at xs (suc k) n (and_parts (x == 2 ^ k) (are_powers xs (suc k)) e).1 (omega arith))

-- as the shift of one computes it
pub shifted_one : (k : ℕ) → k < 128 → 2 ^ k ≡ 1 * 2 ^ k % 2 ^ 128
shifted_one k l =
    let low : 2 ^ k < 2 ^ 128 = pow_below k 128 l in
    omega arith
