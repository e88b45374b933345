-- How many cycles of a stretch pass a test.
use Rattle.std.proofs.Common.{ℕ, zero, suc, ◌+◌, ◌-◌, ◌<◌, ◌≤◌, ◌≡◌, Bool, true, false, cond, arith, refl}
use Rattle.std.specs.Prelude.{count_by}
use Rattle.std.specs.List.{range_with_len}
use Rattle.std.proofs.lemmas.List.Sums.{sum_by-cons}
use Rattle.tomex_timing.specs.Ahead.{one}
use Rattle.tomex_timing.specs.Needs.{cycles_that}

one_more : (p : ℕ → Bool) (a n : ℕ)
    → count_by p (range_with_len a (suc n)) ≡ one (p a) + count_by p (range_with_len (a + 1) n)
one_more p a n = sum_by-cons (λ t. one (p t)) a (range_with_len (a + 1) n)

-- two stretches that follow each other
count_split : (p : ℕ → Bool) (m n a : ℕ) → count_by p (range_with_len a (m + n))
    ≡ count_by p (range_with_len a m) + count_by p (range_with_len (a + m) n)
count_split p zero n a =
    let e : zero + n ≡ n = omega arith in
    let f : a + zero ≡ a = omega arith in
    rw (e, f) (omega arith)
count_split p (suc m) n a =
    let e : suc m + n ≡ suc (m + n) = omega arith in
    let f : a + suc m ≡ (a + 1) + m = omega arith in
    let k = count_split p m n (a + 1) in
    let x = one_more p a (m + n) in
    let y = one_more p a m in
    rw (e, f) (omega arith)

pub cut : (p : ℕ → Bool) (a b c : ℕ) → a ≤ b → b ≤ c → cycles_that p a c ≡ cycles_that p a b + cycles_that p b c
cut p a b c l m =
    let e : c - a ≡ (b - a) + (c - b) = omega arith in
    let f : a + (b - a) ≡ b = omega arith in
    let k = count_split p (b - a) (c - b) a in
    rw (f, ← e) at k

-- the test answers the same in each cycle
count_same : (p : ℕ → Bool) (b : Bool) (n a : ℕ) → ((t : ℕ) → a ≤ t → t < a + n → p t ≡ b)
    → count_by p (range_with_len a n) ≡ cond b n 0
count_same p true zero a each = refl
count_same p false zero a each = refl
count_same p true (suc n) a each =
    let k = count_same p true n (a + 1) (λ t l m. each t (omega arith) (omega arith)) in
    rw (one_more p a n, each a (omega arith) (omega arith), k) (omega arith)
count_same p false (suc n) a each =
    let k = count_same p false n (a + 1) (λ t l m. each t (omega arith) (omega arith)) in
    rw (one_more p a n, each a (omega arith) (omega arith), k) refl

pub same : (p : ℕ → Bool) (b : Bool) (from to : ℕ) → ((t : ℕ) → from ≤ t → t < to → p t ≡ b)
    → cycles_that p from to ≡ cond b (to - from) 0
same p b from to each = count_same p b (to - from) from (λ t l m. each t l (omega arith))
