-- Numbers that are kept only up to a bound.
use Rattle.std.proofs.Common.{◌≡◌, ℕ, ◌+◌, ◌*◌, ◌<◌, ◌≤◌, min, ⊎_elim, refl, arith}
use Rattle.std.proofs.lemmas.Bool.{cases_lt}

pub capped : (n base d most : ℕ) → 0 < base → min (min n most * base + d) most ≡ min (n * base + d) most
capped n base d most h =
    ⊎_elim (λ (l : n < most). let e : min n most ≡ n = omega arith in rw e refl)
    (λ (l : most ≤ n).
    let e : min n most ≡ most = omega arith in
    let a : most ≤ most * base = grind arith in
    let b : n ≤ n * base = grind arith in
    rw e (omega arith)) (cases_lt n most)
