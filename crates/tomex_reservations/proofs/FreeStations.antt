-- The search for the station of a pool that is free first.
use Rattle.std.proofs.Common.{ℕ, ◌+◌, ◌-◌, ◌^◌, ◌<◌, ◌≤◌, ◌≡◌, ◌⊎◌, arith, refl, inl, inr, List}
use Rattle.std.proofs.lemmas.Bool.{cases_order}
use Rattle.tomex_rvdec.specs.declared.pool.PoolId.{PoolId}
use Rattle.tomex_reservations.specs.Reservations.{IsFreeFirst, end_at}

-- none of the first i stations is free in the cycle `from`, and number n is the first that will be, in this cycle
pub record IsSoonest (ends : List ℕ) (pool : PoolId) (from i cycle n : ℕ) : Type 0 where
  pub passed : (k : ℕ) → k < i → from ≤ end_at ends pool k
  pub by : (k : ℕ) → k < i → cycle ≤ end_at ends pool k + 1
  pub least : (k : ℕ) → k < n → cycle ≤ end_at ends pool k
  pub at : ((i ≡ 0) × (cycle ≡ 2 ^ 64 - 1)) ⊎ ((n < i) × (cycle ≡ end_at ends pool n + 1))

pub soonest_none : (ends : List ℕ) (pool : PoolId) (from : ℕ) → IsSoonest ends pool from 0 (2 ^ 64 - 1) 0
soonest_none ends pool from = record {
  passed = λ k l. absurd (omega arith);
  by = λ k l. absurd (omega arith);
  least = λ k l. absurd (omega arith);
  at = inl (refl, refl);
}

-- up to one more station
more : (P : ℕ → Type 0) (i : ℕ) → ((k : ℕ) → k < i → P k) → P i → (k : ℕ) → k < i + 1 → P k
more P i below here k l = elim (cases_order k i) [
  | inl e ↦ rw e here
  | inr (inl m) ↦ below k m
  | inr (inr m) ↦ absurd (omega arith)
]

pub soonest_takes : (ends : List ℕ) (pool : PoolId) (from i cycle n : ℕ) → from < end_at ends pool i + 1
    → end_at ends pool i + 1 < cycle → IsSoonest ends pool from i cycle n
    → IsSoonest ends pool from (i + 1) (end_at ends pool i + 1) i
soonest_takes ends pool from i cycle n busy sooner soonest = record {
  passed = more (λ k. from ≤ end_at ends pool k) i soonest.passed (omega arith);
  by = more (λ k. end_at ends pool i + 1 ≤ end_at ends pool k + 1) i (λ k l. omega (arith, soonest.by k l))
      (omega arith);
  least = λ k l. omega (arith, soonest.by k l);
  at = inr (omega arith, refl);
}

pub soonest_keeps : (ends : List ℕ) (pool : PoolId) (from i cycle n : ℕ) → end_at ends pool i < 2 ^ 63
    → from < end_at ends pool i + 1 → cycle ≤ end_at ends pool i + 1 → IsSoonest ends pool from i cycle n
    → IsSoonest ends pool from (i + 1) cycle n
soonest_keeps ends pool from i cycle n small busy later soonest = record {
  passed = more (λ k. from ≤ end_at ends pool k) i soonest.passed (omega arith);
  by = more (λ k. cycle ≤ end_at ends pool k + 1) i soonest.by later;
  least = soonest.least;
  at = elim (soonest.at) [
    | inl none ↦ absurd (omega (arith, none.1))
    | inr there ↦ inr (omega (arith, there.0), there.1)
  ];
}

-- a station that is free in the first cycle
pub free_at_once : (ends : List ℕ) (pool : PoolId) (count from i cycle n : ℕ) → i < count → end_at ends pool i
    + 1 ≤ from → IsSoonest ends pool from i cycle n → IsFreeFirst ends pool count from from i
free_at_once ends pool count from i cycle n there free soonest = record {
  begun = omega arith;
  there = there;
  free = omega arith;
  least = soonest.passed;
  none = λ k t l m o. absurd (omega arith);
}

-- and the one that is free first if none is
pub free_soonest : (ends : List ℕ) (pool : PoolId) (count from cycle n : ℕ) → 1 ≤ count
    → IsSoonest ends pool from count cycle n → IsFreeFirst ends pool count from cycle n
free_soonest ends pool count from cycle n some soonest = elim (soonest.at) [
  | inl none ↦ absurd (omega (arith, none.0))
  | inr there ↦ record {
    begun = omega (arith, there.1, soonest.passed n there.0);
    there = there.0;
    free = omega (arith, there.1);
    least = soonest.least;
    none = λ k t l m o. omega (arith, soonest.by k l);
  }
]

-- after the greatest end each station is free
pub free_by : (ends : List ℕ) (pool : PoolId) (count from cycle n bound : ℕ) → 1 ≤ count → end_at ends pool 0 ≤ bound
    → from ≤ bound + 1 → IsFreeFirst ends pool count from cycle n → cycle ≤ bound + 1
free_by ends pool count from cycle n bound some by early first = elim (cases_order (bound + 1) cycle) [
  | inl e ↦ omega arith
  | inr (inl k) ↦ let late : bound + 1 ≤ end_at ends pool 0 = first.none 0 (bound + 1) (omega arith) early k in
      absurd (omega arith)
  | inr (inr k) ↦ omega arith
]
