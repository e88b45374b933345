-- The distinct costs are the costs and no others.
use Rattle.std.proofs.Common.{◌≡◌, ℕ, ◌<◌, ◌⊎◌, List, [], ◌∷◌, refl, sym, ap, arith, ◌∙◌, inl, inr, ⊎_elim}
use Rattle.std.specs.Ordering.{nat_cmp, match_ordering, MatchOrdering}
use Rattle.std.specs.declared.cmp.Ordering.{Ordering}
use Rattle.std.specs.declared.cmp.Ordering.TheVariants.{Less, Equal, Greater}
use Rattle.std.specs.BTreeSet.{insert_key}
use Rattle.std.proofs.lemmas.Cmp.{ranked}
use Rattle.tomex_board.specs.Bands.{with_costs}
use Rattle.tomex_board.specs.Views.{Has}
use Rattle.tomex_board.proofs.Rising.{Above, Rises}

of_inserted : (xs : List ℕ) (c d : ℕ) → Has (insert_key nat_cmp xs c) d → (c ≡ d) ⊎ Has xs d
of_inserted [] c d h = h
of_inserted (x ∷ xs) c d h = by (nat_cmp c x) (of_inserted xs c d) h
  where
    by : (r : Ordering) → (Has (insert_key nat_cmp xs c) d → (c ≡ d) ⊎ Has xs d)
        → Has (match_ordering r (c ∷ x ∷ xs) (x ∷ xs) (x ∷ insert_key nat_cmp xs c)) d → (c ≡ d) ⊎ Has (x ∷ xs) d
    by Less rec h = h
    by Equal rec h = inr h
    by Greater rec h = ⊎_elim (λ (e : x ≡ d). inr (inl e))
        (λ k. ⊎_elim (λ (e : c ≡ d). inl e) (λ (q : Has xs d). inr (inr q)) (rec k)) h

inserted : (xs : List ℕ) (c d : ℕ) → (c ≡ d) ⊎ Has xs d → Has (insert_key nat_cmp xs c) d
inserted [] c d h = h
inserted (x ∷ xs) c d h = by (nat_cmp c x) (ranked c x (nat_cmp c x) refl) (inserted xs c d) h
  where
    by : (r : Ordering) → MatchOrdering r (c < x) (c ≡ x) (x < c)
        → ((c ≡ d) ⊎ Has xs d → Has (insert_key nat_cmp xs c) d) → (c ≡ d) ⊎ Has (x ∷ xs) d
        → Has (match_ordering r (c ∷ x ∷ xs) (x ∷ xs) (x ∷ insert_key nat_cmp xs c)) d
    by Less m rec h = h
    by Equal m rec h = ⊎_elim (λ (e : c ≡ d). inl (sym m ∙ e)) (λ (q : Has (x ∷ xs) d). q) h
    by Greater m rec h = ⊎_elim (λ (e : c ≡ d). inr (rec (inl e)))
        (λ (q : Has (x ∷ xs) d). ⊎_elim (λ (e : x ≡ d). inl e) (λ (z : Has xs d). inr (rec (inr z))) q) h

pub of_with : (rising costs : List ℕ) (d : ℕ) → Has (with_costs rising costs) d → Has rising d ⊎ Has costs d
of_with rising [] d h = inl h
of_with rising (c ∷ costs) d h =
    ⊎_elim (λ (q : Has (insert_key nat_cmp rising c) d). ⊎_elim (λ (e : c ≡ d). inr (inl e))
    (λ (z : Has rising d). inl z) (of_inserted rising c d q)) (λ (q : Has costs d). inr (inr q))
    (of_with (insert_key nat_cmp rising c) costs d h)

pub in_with : (rising costs : List ℕ) (d : ℕ) → Has rising d ⊎ Has costs d → Has (with_costs rising costs) d
in_with rising [] d h = ⊎_elim (λ (q : Has rising d). q) (λ f. absurd f) h
in_with rising (c ∷ costs) d h = in_with (insert_key nat_cmp rising c) costs d
    (⊎_elim (λ (q : Has rising d). inl (inserted rising c d (inr q)))
    (λ (q : Has (c ∷ costs) d). ⊎_elim (λ (e : c ≡ d). inl (inserted rising c d (inl e)))
    (λ (z : Has costs d). inr z) q) h)

has_above : (c : ℕ) (xs : List ℕ) (d : ℕ) → Above c xs → Has xs d → c < d
has_above c [] d a h = absurd h
has_above c (x ∷ xs) d a h = ⊎_elim (λ (e : x ≡ d). let low : c < x = a.0 in omega arith) (has_above c xs d a.1) h

-- one that is among rising costs changes nothing
pub inserted_again : (xs : List ℕ) (c : ℕ) → Rises xs → Has xs c → insert_key nat_cmp xs c ≡ xs
inserted_again [] c t h = absurd h
inserted_again (x ∷ xs) c t h = by (nat_cmp c x) (ranked c x (nat_cmp c x) refl) (inserted_again xs c t.1) h
  where
    by : (r : Ordering) → MatchOrdering r (c < x) (c ≡ x) (x < c) → (Has xs c → insert_key nat_cmp xs c ≡ xs)
        → Has (x ∷ xs) c → match_ordering r (c ∷ x ∷ xs) (x ∷ xs) (x ∷ insert_key nat_cmp xs c) ≡ x ∷ xs
    by Less m rec h = ⊎_elim (λ (e : x ≡ c). absurd (omega arith))
        (λ (q : Has xs c). let above : x < c = has_above x xs c t.0 q in absurd (omega arith)) h
    by Equal m rec h = refl
    by Greater m rec h = ⊎_elim (λ (e : x ≡ c). absurd (omega arith))
        (λ (q : Has xs c). ap (λ (l : List ℕ). x ∷ l) (rec q)) h

pub has_inserted : (xs : List ℕ) (c : ℕ) → Has (insert_key nat_cmp xs c) c
has_inserted xs c = inserted xs c c (inl refl)

pub has_still : (xs : List ℕ) (c d : ℕ) → Has xs d → Has (insert_key nat_cmp xs c) d
has_still xs c d h = inserted xs c d (inr h)
