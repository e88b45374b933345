-- Rows by their numbers: which of them are finished, and that no two have the same number.
use Rattle.std.proofs.Common.{◌≡◌, ◌≢◌, ℕ, zero, suc, ◌+◌, ◌<◌, inl, inr, arith, ap, sym, refl, subst, map}
use Rattle.std.proofs.Common.{List, [], ◌∷◌, length, get_or, Some, None, slice_get, All}
use Rattle.tomex_board.specs.declared.mark.Mark.{Mark}
use Rattle.tomex_board.specs.declared.mark.Mark.TheVariants.{Finished}
use Rattle.tomex_pareto.specs.declared.front_row.FrontRow.{FrontRow}
use Rattle.tomex_sweep.specs.Finished.{finished_from}
use Rattle.tomex_pareto.specs.Pareto.{AreNumbered}
use Rattle.tomex_pareto.proofs.Pareto.{Has, AreApart, all_from, distinct}
use Rattle.tomex_pareto.proofs.Rows.{same_row}

-- r is the row n + k, of this mark
pub record IsOf (n : ℕ) (costs : List ℕ) (marks : List Mark) (r : FrontRow) : Type 0 where
  pub k : ℕ
  pub within : k < length costs
  pub mark : slice_get marks k ≡ Some (Finished r.cycles)
  pub number : r.row ≡ n + k
  pub cost : r.cost ≡ get_or costs k 0

of_later : (n c : ℕ) (m : Mark) (cs : List ℕ) (ms : List Mark) (r : FrontRow) → IsOf (suc n) cs ms r
    → IsOf n (c ∷ cs) (m ∷ ms) r
of_later n c m cs ms r w = let l = w.within in let e = w.number in
    record { k = suc w.k; within = omega arith; mark = w.mark; number = omega arith; cost = w.cost }

pub finished_of : (n : ℕ) (cs : List ℕ) (ms : List Mark) (r : FrontRow) → Has (finished_from n cs ms) r → IsOf n cs ms r
finished_of n [] ms r h = absurd h
finished_of n (c ∷ cs) [] r h = absurd h
finished_of n (c ∷ cs) (Finished y ∷ ms) r (inl e) = record {
  k = 0;
  within = omega arith;
  mark = ap (λ (q : FrontRow). Some (Finished q.cycles)) e;
  number = (let z = ap (λ (q : FrontRow). q.row) e in omega arith);
  cost = ap (λ (q : FrontRow). q.cost) (sym e);
}
finished_of n (c ∷ cs) (Finished y ∷ ms) r (inr t) = of_later n c (Finished y) cs ms r (finished_of (suc n) cs ms r t)
finished_of n (c ∷ cs) (m ∷ ms) r h = of_later n c m cs ms r (finished_of (suc n) cs ms r h)

pub of_finished : (n : ℕ) (cs : List ℕ) (ms : List Mark) (k m y : ℕ) → m ≡ n + k → k < length cs
    → slice_get ms k ≡ Some (Finished y)
    → Has (finished_from n cs ms) (record { row = m; cost = get_or cs k 0; cycles = y })
of_finished n [] ms k m y e l at = absurd (omega arith)
of_finished n (c ∷ cs) [] k m y e l at = absurd (let z : None ≡ Some (Finished y) = at in cc)
of_finished n (c ∷ cs) (Finished x ∷ xs) zero m y e l at = let i : n ≡ m = omega arith in
    let j : Some (Finished x) ≡ Some (Finished y) = at in
    inl (same_row n c x (record { row = m; cost = c; cycles = y }) i refl cc)
of_finished n (c ∷ cs) (x ∷ xs) zero m y e l at = absurd (let z : Some x ≡ Some (Finished y) = at in cc)
of_finished n (c ∷ cs) (Finished x ∷ xs) (suc k) m y e l at =
    inr (of_finished (suc n) cs xs k m y (omega arith) (omega arith) at)
of_finished n (c ∷ cs) (x ∷ xs) (suc k) m y e l at = of_finished (suc n) cs xs k m y (omega arith) (omega arith) at

-- no two of them have the same number

pub finished_apart : (n : ℕ) (cs : List ℕ) (ms : List Mark) → AreApart (finished_from n cs ms)
finished_apart n [] ms = tt
finished_apart n (c ∷ cs) [] = tt
finished_apart n (c ∷ cs) (Finished y ∷ ms) = (
  all_from (λ q. n ≢ q.row) (finished_from (suc n) cs ms)
      (λ r h e. let w = finished_of (suc n) cs ms r h in let f = w.number in absurd (omega arith)),
  finished_apart (suc n) cs ms,
)
finished_apart n (c ∷ cs) (m ∷ ms) = finished_apart (suc n) cs ms

pub finished_numbered : (costs : List ℕ) (marks : List Mark) → AreNumbered (finished_from 0 costs marks)
finished_numbered costs marks = distinct (finished_from 0 costs marks) (finished_apart 0 costs marks)
