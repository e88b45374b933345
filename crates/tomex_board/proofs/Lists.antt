-- Lists of rows, of numbers and of views.
use Rattle.std.proofs.Common.{◌≡◌, ◌≢◌, ℕ, zero, suc, ◌+◌, min, ◌<◌, ◌≤◌, ◌⊎◌, cond, List, [], ◌∷◌, ◌++◌, length, set}
use Rattle.std.proofs.Common.{sym, refl, ◌∙◌, subst, inl, inr, ⊎_elim, arith, eq-eqb, ne_eqb}
use Rattle.std.proofs.lemmas.List.{length-set}
use Rattle.std.specs.List.{range_with_len}
use mathlib.Core.Logic.{dite}
use mathlib.Core.Option.{some, some-injective, some-ne-none}
use native.Mathlib.Decide.{ℕ_discrete, dec_le}
use lib.ListN.{get_elem?}
use Rattle.atomic_table.proofs.Lists.{at_set}
use Rattle.tomex_board.specs.declared.view.View.{View}
use Rattle.tomex_board.specs.Views.{Has, without, least_of}

pub last_at : (l : List View) (a b : View) (j : ℕ) → get_elem? (l ++ a ∷ []) j ≡ some b → (get_elem? l j ≡ some b)
    ⊎ ((j ≡ length l) × (a ≡ b))
last_at [] a b zero e = inr (refl, some-injective a b e)
last_at [] a b (suc j) e = absurd (some-ne-none b (sym e))
last_at (x ∷ xs) a b zero e = inl e
last_at (x ∷ xs) a b (suc j) e =
    ⊎_elim (λ q. inl q) (λ (q : (j ≡ length xs) × (a ≡ b)). inr (omega (arith, q.0), q.1)) (last_at xs a b j e)

pub without_has : (i : ℕ) (xs : List ℕ) (j : ℕ) → Has (without i xs) j → (j ≢ i) × Has xs j
without_has i [] j h = absurd h
without_has i (x ∷ xs) j h = dite (ℕ_discrete x i)
    (λ e. let h' : Has (without i xs) j =
    subst (λ b. Has (cond b (without i xs) (x ∷ without i xs)) j) (eq-eqb x i e) h in
    let t = without_has i xs j h' in (t.0, inr t.1))
    (λ ne. let h' : Has (x ∷ without i xs) j =
    subst (λ b. Has (cond b (without i xs) (x ∷ without i xs)) j) (ne_eqb x i ne) h in
    ⊎_elim (λ (e : x ≡ j). ((λ ji. ne (e ∙ ji)), inl e)) (λ (k : Has (without i xs) j). let t = without_has i xs j k in
    (t.0, inr t.1)) h')

pub without_keeps : (i : ℕ) (xs : List ℕ) (j : ℕ) → Has xs j → j ≢ i → Has (without i xs) j
without_keeps i [] j h ne = absurd h
without_keeps i (x ∷ xs) j h ne = dite (ℕ_discrete x i)
    (λ e. subst (λ b. Has (cond b (without i xs) (x ∷ without i xs)) j) (sym (eq-eqb x i e))
    (⊎_elim (λ (q : x ≡ j). absurd (ne (sym q ∙ e))) (λ (k : Has xs j). without_keeps i xs j k ne) h))
    (λ n. subst (λ b. Has (cond b (without i xs) (x ∷ without i xs)) j) (sym (ne_eqb x i n))
    (⊎_elim (λ (q : x ≡ j). inl q) (λ (k : Has xs j). inr (without_keeps i xs j k ne)) h))

pub least_has : (xs : List ℕ) (x : ℕ) → Has xs x → Has xs (least_of xs)
least_has [] x h = absurd h
least_has (y ∷ []) x h = inl refl
least_has (y ∷ z ∷ zs) x h = dite (dec_le y (least_of (z ∷ zs))) (λ le. inl (omega arith))
    (λ gt. let e : least_of (z ∷ zs) ≡ min y (least_of (z ∷ zs)) = omega arith in
    inr (subst (Has (z ∷ zs)) e (least_has (z ∷ zs) z (inl refl))))

pub range_below : (a k x : ℕ) → Has (range_with_len a k) x → x < a + k
range_below a zero x h = absurd h
range_below a (suc k) x h = ⊎_elim (λ (e : a ≡ x). omega arith) (λ (q : Has (range_with_len (a + 1) k) x). let r =
    range_below (a + 1) k x q in omega arith) h

pub here : (l : List View) (i : ℕ) (a b : View) → get_elem? l i ≡ some a → get_elem? (set l i b) i ≡ some b
here [] i a b e = absurd (some-ne-none a (sym e))
here (x ∷ xs) zero a b e = refl
here (x ∷ xs) (suc i) a b e = here xs i a b e

pub range_has : (a k x : ℕ) → a ≤ x → x < a + k → Has (range_with_len a k) x
range_has a zero x low high = absurd (omega arith)
range_has a (suc k) x low high =
    dite (ℕ_discrete a x) (λ e. inl e) (λ ne. inr (range_has (a + 1) k x (omega arith) (omega arith)))

pub left_of : {X : Type 0} (xs ys : List X) (x : X) → Has xs x → Has (xs ++ ys) x
left_of [] ys x h = absurd h
left_of (z ∷ zs) ys x h = ⊎_elim (λ e. inl e) (λ (k : Has zs x). inr (left_of zs ys x k)) h

pub right_of : {X : Type 0} (xs ys : List X) (x : X) → Has ys x → Has (xs ++ ys) x
right_of [] ys x h = h
right_of (z ∷ zs) ys x h = inr (right_of zs ys x h)

pub of_both : {X : Type 0} (xs ys : List X) (x : X) → Has (xs ++ ys) x → Has xs x ⊎ Has ys x
of_both [] ys x h = inr h
of_both (z ∷ zs) ys x h = ⊎_elim (λ (e : z ≡ x). inl (inl e))
    (λ (k : Has (zs ++ ys) x). ⊎_elim (λ q. inl (inr q)) (λ q. inr q) (of_both zs ys x k)) h

pub two_left : (xs : List ℕ) (x y : ℕ) → Has xs x → Has xs y → x ≢ y → (z : ℕ) × Has (without (least_of xs) xs) z
two_left xs x y hx hy ne = dite (ℕ_discrete x (least_of xs))
    (λ e. (y, without_keeps (least_of xs) xs y hy (λ q. ne (e ∙ sym q))))
    (λ q. (x, without_keeps (least_of xs) xs x hx q))

-- the views after a split, one by one
pub cut_at : (l : List View) (i : ℕ) (left right : View) (j : ℕ) (u : View) → get_elem? (set l i left ++ right ∷ []) j
    ≡ some u
    → ((j ≡ i) × (left ≡ u)) ⊎ (((j ≢ i) × (get_elem? l j ≡ some u)) ⊎ ((j ≡ length l) × (right ≡ u)))
cut_at l i left right j u e = ⊎_elim
    (λ (q : get_elem? (set l i left) j ≡ some u). ⊎_elim (λ t. inl t) (λ t. inr (inl t)) (at_set l i j left u q))
    (λ (q : (j ≡ length (set l i left)) × (right ≡ u)). inr (inr (q.0 ∙ length-set l i left, q.1)))
    (last_at (set l i left) right u j e)
