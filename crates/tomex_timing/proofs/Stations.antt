-- Where fewer of a pool's stations are held than there are, one of them is free.
use Rattle.std.proofs.Common.{ℕ, zero, suc, ◌+◌, ◌<◌, ◌≤◌, ◌≡◌, Bool, true, false, arith, refl, ◌⊎◌, inl, inr}
use Rattle.std.proofs.Common.{List, [], ◌∷◌, Option, Some, None, nat_lt, ◌==◌, not, ◌&&◌, count_by}
use Rattle.std.specs.List.{list_all}
use Rattle.std.proofs.lemmas.Bool.{cases_Bool, ltb-true}
use Rattle.std.proofs.lemmas.Bool.Decides.{nat_tests}
use Rattle.std.proofs.lemmas.List.Sums.{sum_by-cons}
use Rattle.tomex_rvdec.specs.declared.pool.PoolId.{PoolId}
use Rattle.tomex_config.specs.Configuration.{Configuration, stations_of}
use Rattle.tomex_timing.specs.declared.times.Done.{Done}
use Rattle.tomex_timing.specs.Ahead.{one}
use Rattle.tomex_rvexec.specs.Steps.{is_number}
use Rattle.tomex_timing.specs.Station.{is_held, has_station, is_free}
use Rattle.tomex_timing.specs.Recurrence.{IsLeast}
use Rattle.tomex_timing.specs.Search.{first_from, least}
use Rattle.tomex_timing.proofs.Least.{fails_more}

-- a bounded search finds the least, or there is none below the bound
first_from_cases : (p : ℕ → Bool) (t n : ℕ) → ((s : ℕ) → s < t → p s ≡ false) → ((s : ℕ) → s < t + n → p s ≡ false)
    ⊎ (IsLeast p (first_from p t n) × (first_from p t n < t + n))
first_from_cases p t zero below = inl (λ s l. below s (omega arith))
first_from_cases p t (suc n) below = elim (cases_Bool (p t)) [
  | inl e ↦ rw e (inr ((e, below), omega arith))
  | inr e ↦
      let k : suc t + n ≡ t + suc n = omega arith in
      rw (e, ← k) (first_from_cases p (suc t) n (fails_more p t below e))
]

pub least_cases : (p : ℕ → Bool) (n : ℕ) → ((s : ℕ) → s < n → p s ≡ false) ⊎ (IsLeast p (least p n) × (least p n < n))
least_cases p n =
    let z : 0 + n ≡ n = omega arith in
    rw z at (first_from_cases p 0 n (λ s l. absurd (omega arith)))

-- the step has a station of the pool whose number is lower
abbrev pub lower : Option ℕ → ℕ → Bool
lower None n = false
lower (Some m) n = nat_lt m n

split_number : (m n : ℕ) → one (nat_lt m (suc n)) ≡ one (nat_lt m n) + one (m == n)
split_number m n = grind (arith, nat_tests)

split_one : (b : Bool) (st : Option ℕ) (n : ℕ) → one (b && lower st (suc n)) ≡ one (b && lower st n)
    + one (b && is_number st n)
split_one false st n = refl
split_one true None n = refl
split_one true (Some m) n = split_number m n

pub split_count : {X : Type 0} (held : X → Bool) (station : X → Option ℕ) (n : ℕ) (xs : List X)
    → count_by (λ d. held d && lower (station d) (suc n)) xs ≡ count_by (λ d. held d && lower (station d) n) xs
    + count_by (λ d. held d && is_number (station d) n) xs
split_count held station n [] = refl
split_count held station n (d ∷ xs) =
    let e = split_count held station n xs in
    let f : one (held d && lower (station d) (suc n)) ≡ one (held d && lower (station d) n)
    + one (held d && is_number (station d) n) = split_one (held d) (station d) n in
    rw (sum_by-cons, sum_by-cons, sum_by-cons) (omega arith)

one_at_least : {X : Type 0} (q : X → Bool) (xs : List X) → list_all (λ d. not (q d)) xs ≡ false → 0 < count_by q xs
one_at_least q [] h = absurd (cc)
one_at_least q (d ∷ xs) h = elim (cases_Bool (q d)) [
  | inl e ↦ rw (sum_by-cons, e) (omega arith)
  | inr e ↦ let k : 0 < count_by q xs = one_at_least q xs (rw e at h) in rw (sum_by-cons, e) (omega arith)
]

-- if the first n numbers are held, n stations are
pigeons : {X : Type 0} (held : X → Bool) (station : X → Option ℕ) (xs : List X) (n : ℕ)
    → ((k : ℕ) → k < n → list_all (λ d. not (held d && is_number (station d) k)) xs ≡ false)
    → n ≤ count_by (λ d. held d && lower (station d) n) xs
pigeons held station xs zero h = omega arith
pigeons held station xs (suc n) h =
    let a : n ≤ count_by (λ d. held d && lower (station d) n) xs =
    pigeons held station xs n (λ k l. h k (omega arith)) in
    let b : 0 < count_by (λ d. held d && is_number (station d) n) xs =
    one_at_least (λ d. held d && is_number (station d) n) xs (h n (omega arith)) in
    let e = split_count held station n xs in
    omega arith

pub one_part : (a b : Bool) → one (a && b) ≤ one a
one_part a b = grind (arith, nat_tests)

pub part_count : {X : Type 0} (held : X → Bool) (station : X → Option ℕ) (n : ℕ) (xs : List X)
    → count_by (λ d. held d && lower (station d) n) xs ≤ count_by (held) xs
part_count held station n [] = omega arith
part_count held station n (d ∷ xs) =
    let e = part_count held station n xs in
    let f : one (held d && lower (station d) n) ≤ one (held d) = one_part (held d) (lower (station d) n) in
    rw (sum_by-cons, sum_by-cons) (omega arith)

-- if fewer than n are held, one of the first n numbers is free
pub found : {X : Type 0} (held : X → Bool) (station : X → Option ℕ) (xs : List X) (n : ℕ) → count_by held xs < n
    → IsLeast (λ k. list_all (λ d. not (held d && is_number (station d) k)) xs)
    (least (λ k. list_all (λ d. not (held d && is_number (station d) k)) xs) n)
    × (least (λ k. list_all (λ d. not (held d && is_number (station d) k)) xs) n < n)
found held station xs n few = elim (least_cases (λ k. list_all (λ d. not (held d && is_number (station d) k)) xs) n) [
  | inl none ↦
      let a : n ≤ count_by (λ d. held d && lower (station d) n) xs = pigeons held station xs n none in
      let b = part_count held station n xs in
      absurd (omega arith)
  | inr there ↦ there
]

-- the station is found, and is one of the pool's
pub number_is : (config : Configuration) (older : List Done) (pool : PoolId) (t : ℕ)
    → has_station config older (Some pool) t ≡ true
    → IsLeast (is_free pool older t) (least (is_free pool older t) (stations_of config pool))
    × (least (is_free pool older t) (stations_of config pool) < stations_of config pool)
number_is config older pool t h =
    found (is_held pool t) (λ d. d.at.station) older (stations_of config pool) (ltb-true _ _ h)
