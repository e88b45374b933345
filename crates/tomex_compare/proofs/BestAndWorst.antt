-- The best and the worst of numbered rows, one row after the other.
use Rattle.std.proofs.Common.{◌≡◌, arith, sym, refl, subst, ℕ, zero, suc, ◌+◌, ◌<◌, ◌≤◌, Bool, true, false, map}
use Rattle.std.proofs.Common.{add-one, nat_lt, ⊎_elim}
use Rattle.std.proofs.lemmas.Bool.{cases_lt}
use Rattle.std.specs.Prelude.{nat_le}
use Rattle.std.specs.List.{best_of, range_with_len}
use Rattle.std.proofs.lemmas.Bool.Decides.{nat_tests}
use Rattle.tomex_compare.specs.ProgramTable.{is_better, is_worse}
use Rattle.tomex_compare.specs.declared.extremes.RowCycles.{RowCycles}
use Rattle.tomex_compare.proofs.Steps.{keeps, takes}

below : (m n : ℕ) → nat_lt m n ≡ true → m < n
below m n e = grind (arith, nat_tests)

not_below : (m n : ℕ) → nat_lt m n ≡ false → n ≤ m
not_below m n e = grind (arith, nat_tests)

at_most : (m n : ℕ) → nat_le m n ≡ true → m ≤ n
at_most m n e = grind (arith, nat_tests)

not_at_most : (m n : ℕ) → nat_le m n ≡ false → n < m
not_at_most m n e = grind (arith, nat_tests)

-- t are the cycles of the rows
module _ (t : ℕ → ℕ) where
  abbrev pub row_of : ℕ → RowCycles
  row_of k = record { row = k; cycles = t k }

  abbrev pub best : ℕ → RowCycles
  best k = best_of is_better (row_of 0) (map row_of (range_with_len 0 k))

  abbrev pub worst : ℕ → RowCycles
  worst k = best_of is_worse (row_of 0) (map row_of (range_with_len 0 k))

  -- the first of the rows with the fewest cycles
  pub record IsBest (k : ℕ) (b : RowCycles) : Type 0 where
    pub own : b.cycles ≡ t b.row
    pub near : b.row ≤ k
    pub within : 0 < k → b.row < k
    pub least : (n : ℕ) → n < k → b.cycles ≤ t n
    pub first : (n : ℕ) → n < k → n < b.row → b.cycles < t n

  -- the last of the rows with the most cycles
  pub record IsWorst (k : ℕ) (w : RowCycles) : Type 0 where
    pub own : w.cycles ≡ t w.row
    pub near : w.row ≤ k
    pub within : 0 < k → w.row < k
    pub greatest : (n : ℕ) → n < k → t n ≤ w.cycles
    pub last : (n : ℕ) → n < k → w.row < n → t n < w.cycles

  -- a fact of all rows before k, and of row k
  one_more : (P : ℕ → Type 0) (k : ℕ) → ((n : ℕ) → n < k → P n) → P k → (n : ℕ) → n < k + 1 → P n
  one_more P k before here n low =
      ⊎_elim (λ (l : n < k). before n l)
      (λ (l : k ≤ n). let e : n ≡ k = omega (arith, low, l) in subst P (sym e) here) (cases_lt n k)

  taken : (k : ℕ) (b : RowCycles) → IsBest k b → t k < b.cycles → IsBest (k + 1) (row_of k)
  taken k b so low = record {
    own = refl;
    near = omega arith;
    within = λ _. omega arith;
    least = one_more (λ n. t k ≤ t n) k (λ n l. let e = so.least n l in omega (arith, e, low)) (omega arith);
    first = λ n _ l. let e = so.least n l in omega (arith, e, low);
  }

  kept : (k : ℕ) (b : RowCycles) → IsBest k b → b.cycles ≤ t k → IsBest (k + 1) b
  kept k b so high = record {
    own = so.own;
    near = let e = so.near in omega (arith, e);
    within = λ _. let e = so.near in omega (arith, e);
    least = one_more (λ n. b.cycles ≤ t n) k so.least high;
    first = one_more (λ n. n < b.row → b.cycles < t n) k so.first
        (λ l. let e = so.near in absurd (omega (arith, e, l)));
  }

  best_more : (k : ℕ) → IsBest k (best k) → IsBest (k + 1) (best (k + 1))
  best_more k so = by (nat_lt (t k) (best k).cycles) refl where
    by : (x : Bool) → nat_lt (t k) (best k).cycles ≡ x → IsBest (k + 1) (best (k + 1))
    by true e =
        subst (IsBest (k + 1)) (takes is_better (row_of 0) row_of k (best k) (row_of k) refl refl e)
        (taken k (best k) so (below _ _ e))
    by false e =
        subst (IsBest (k + 1)) (keeps is_better (row_of 0) row_of k (best k) (row_of k) refl refl e)
        (kept k (best k) so (not_below _ _ e))

  pub is_best : (k : ℕ) → IsBest k (best k)
  is_best zero = record {
    own = refl;
    near = omega arith;
    within = λ l. absurd (omega (arith, l));
    least = λ n l. absurd (omega (arith, l));
    first = λ n l _. absurd (omega (arith, l));
  }
  is_best (suc k) = rw add-one at (best_more k (is_best k))

  worse_taken : (k : ℕ) (w : RowCycles) → IsWorst k w → w.cycles ≤ t k → IsWorst (k + 1) (row_of k)
  worse_taken k w so high = record {
    own = refl;
    near = omega arith;
    within = λ _. omega arith;
    greatest = one_more (λ n. t n ≤ t k) k (λ n l. let e = so.greatest n l in omega (arith, e, high)) (omega arith);
    last = λ n low l. absurd (omega (arith, low, l));
  }

  worse_kept : (k : ℕ) (w : RowCycles) → IsWorst k w → t k < w.cycles → IsWorst (k + 1) w
  worse_kept k w so low = record {
    own = so.own;
    near = let e = so.near in omega (arith, e);
    within = λ _. let e = so.near in omega (arith, e);
    greatest = one_more (λ n. t n ≤ w.cycles) k so.greatest (omega (arith, low));
    last = one_more (λ n. w.row < n → t n < w.cycles) k so.last (λ _. low);
  }

  worst_more : (k : ℕ) → IsWorst k (worst k) → IsWorst (k + 1) (worst (k + 1))
  worst_more k so = by (nat_le (worst k).cycles (t k)) refl where
    by : (x : Bool) → nat_le (worst k).cycles (t k) ≡ x → IsWorst (k + 1) (worst (k + 1))
    by true e =
        subst (IsWorst (k + 1)) (takes is_worse (row_of 0) row_of k (worst k) (row_of k) refl refl e)
        (worse_taken k (worst k) so (at_most _ _ e))
    by false e =
        subst (IsWorst (k + 1)) (keeps is_worse (row_of 0) row_of k (worst k) (row_of k) refl refl e)
        (worse_kept k (worst k) so (not_at_most _ _ e))

  pub is_worst : (k : ℕ) → IsWorst k (worst k)
  is_worst zero = record {
    own = refl;
    near = omega arith;
    within = λ l. absurd (omega (arith, l));
    greatest = λ n l. absurd (omega (arith, l));
    last = λ n l _. absurd (omega (arith, l));
  }
  is_worst (suc k) = rw add-one at (worst_more k (is_worst k))
