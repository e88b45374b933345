-- Rows by their numbers: each is a row of its number, and no two have the same number.
use Rattle.std.proofs.Common.{◌≡◌, ◌≢◌, ℕ, zero, suc, ◌+◌, ◌<◌, inl, inr, arith, ap, sym, List, [], ◌∷◌, length, get_or}
use Rattle.std.proofs.Common.{All}
use Rattle.tomex_pareto.specs.declared.front_row.FrontRow.{FrontRow}
use Rattle.tomex_pareto.specs.Front.{front_of, rows_from}
use Rattle.tomex_pareto.specs.Pareto.{AreNumbered}
use Rattle.tomex_pareto.proofs.Pareto.{Has, AreApart, all_from, distinct, front_is, has_at}

pub same_row : (n c y : ℕ) (r : FrontRow) → n ≡ r.row → c ≡ r.cost → y ≡ r.cycles
    → record { row = n; cost = c; cycles = y } ≡ r
same_row n c y r e f g = rw (e, f, g)

-- r is the row n + k
pub record IsAt (n : ℕ) (costs cycles : List ℕ) (r : FrontRow) : Type 0 where
  pub k : ℕ
  pub within : k < length costs
  pub number : r.row ≡ n + k
  pub cost : r.cost ≡ get_or costs k 0
  pub cycles_are : r.cycles ≡ get_or cycles k 0

later : (n c y : ℕ) (cs ys : List ℕ) (r : FrontRow) → IsAt (suc n) cs ys r → IsAt n (c ∷ cs) (y ∷ ys) r
later n c y cs ys r w = let l = w.within in let e = w.number in
    record { k = suc w.k; within = omega arith; number = omega arith; cost = w.cost; cycles_are = w.cycles_are }

pub row_at : (n : ℕ) (cs ys : List ℕ) (r : FrontRow) → Has (rows_from n cs ys) r → IsAt n cs ys r
row_at n [] ys r h = absurd h
row_at n (c ∷ cs) [] r h = absurd h
row_at n (c ∷ cs) (y ∷ ys) r (inl e) = record {
  k = 0;
  within = omega arith;
  number = (let z = ap (λ (q : FrontRow). q.row) e in omega arith);
  cost = ap (λ (q : FrontRow). q.cost) (sym e);
  cycles_are = ap (λ (q : FrontRow). q.cycles) (sym e);
}
row_at n (c ∷ cs) (y ∷ ys) r (inr t) = later n c y cs ys r (row_at (suc n) cs ys r t)

pub at_row : (n : ℕ) (cs ys : List ℕ) (k : ℕ) (r : FrontRow) → k < length cs → k < length ys → r.row ≡ n + k
    → r.cost ≡ get_or cs k 0 → r.cycles ≡ get_or ys k 0 → Has (rows_from n cs ys) r
at_row n [] ys k r l m e f g = absurd (omega arith)
at_row n (c ∷ cs) [] k r l m e f g = absurd (omega arith)
at_row n (c ∷ cs) (y ∷ ys) zero r l m e f g = inl (same_row n c y r (omega arith) (sym f) (sym g))
at_row n (c ∷ cs) (y ∷ ys) (suc k) r l m e f g =
    inr (at_row (suc n) cs ys k r (omega arith) (omega arith) (omega arith) f g)

-- no two of them have the same number

pub rows_apart : (n : ℕ) (cs ys : List ℕ) → AreApart (rows_from n cs ys)
rows_apart n [] ys = tt
rows_apart n (c ∷ cs) [] = tt
rows_apart n (c ∷ cs) (y ∷ ys) = (
  all_from (λ q. n ≢ q.row) (rows_from (suc n) cs ys)
      (λ r h e. let w = row_at (suc n) cs ys r h in let f = w.number in absurd (omega arith)),
  rows_apart (suc n) cs ys,
)

pub rows_numbered : (costs cycles : List ℕ) → AreNumbered (rows_from 0 costs cycles)
rows_numbered costs cycles = distinct (rows_from 0 costs cycles) (rows_apart 0 costs cycles)

-- the front's rows are rows
pub front_within : (costs cycles : List ℕ) → All (λ r. r.row < length costs) (front_of (rows_from 0 costs cycles))
front_within costs cycles k d l =
    let rows = rows_from 0 costs cycles in
    let o = (front_is rows (rows_apart 0 costs cycles)).only _ (has_at (front_of rows) k d l) in
    let w = row_at 0 costs cycles _ o.0 in
    omega (arith, w.number, w.within)
