-- Members of lists that are mapped, filtered and appended; the least of some numbers.
use Rattle.std.proofs.Common.{◌≡◌, ℕ, ◌≤◌, arith, ap, sym, refl, subst, ◌∙◌, List, [], ◌∷◌, ◌++◌, map, Bool, true}
use Rattle.std.proofs.Common.{cond, inl, inr, ◌⊎◌, Option, Some, None}
use Rattle.std.specs.Prelude.{min, nat_le}
use Rattle.std.specs.List.{filter}
use Rattle.std.proofs.lemmas.Bool.{cases_Bool}
use Rattle.std.proofs.lemmas.Bool.Decides.{nat_tests}
use Rattle.tomex_survey.specs.Extremes.{least, lesser}
use Rattle.tomex_choices.specs.Passing.{Has}

pub has_map : {X Y : Type 0} (f : X → Y) (xs : List X) (x : X) → Has xs x → Has (map f xs) (f x)
has_map f [] x h = absurd h
has_map f (y ∷ ys) x (inl e) = inl (ap f e)
has_map f (y ∷ ys) x (inr h) = inr (has_map f ys x h)

pub from_map : {X Y : Type 0} (f : X → Y) (xs : List X) (y : Y) → Has (map f xs) y → (x : X) × Has xs x × (f x ≡ y)
from_map f [] y h = absurd h
from_map f (x ∷ xs) y (inl e) = (x, inl refl, e)
from_map f (x ∷ xs) y (inr h) = let w = from_map f xs y h in (w.0, inr w.1, w.2)

pub has_filter : {X : Type 0} (p : X → Bool) (xs : List X) (x : X) → Has xs x → p x ≡ true → Has (filter p xs) x
has_filter p [] x h t = h
has_filter p (y ∷ ys) x (inl e) t = rw (ap p e ∙ t) (inl e)
has_filter p (y ∷ ys) x (inr h) t =
    let k = has_filter p ys x h t in
    elim (cases_Bool (p y)) [ inl e ↦ rw e (inr k) | inr e ↦ rw e k ]

pub from_filter : {X : Type 0} (p : X → Bool) (xs : List X) (x : X) → Has (filter p xs) x → Has xs x × (p x ≡ true)
from_filter p [] x h = absurd h
from_filter p (y ∷ ys) x h = elim (cases_Bool (p y)) [
  | inl e ↦ first e (λ k. from_filter p ys x k)
      (subst (λ (b : Bool). Has (cond b (y ∷ filter p ys) (filter p ys)) x) e h)
  | inr e ↦
      let w = from_filter p ys x (subst (λ (b : Bool). Has (cond b (y ∷ filter p ys) (filter p ys)) x) e h) in
      (inr w.0, w.1)
]
  where
    first : p y ≡ true → (Has (filter p ys) x → Has ys x × (p x ≡ true)) → Has (y ∷ filter p ys) x
        → Has (y ∷ ys) x × (p x ≡ true)
    first e rest (inl s) = (inl s, ap p (sym s) ∙ e)
    first e rest (inr k) = let w = rest k in (inr w.0, w.1)

pub has_left : {X : Type 0} (xs ys : List X) (x : X) → Has xs x → Has (xs ++ ys) x
has_left [] ys x h = absurd h
has_left (z ∷ zs) ys x (inl e) = inl e
has_left (z ∷ zs) ys x (inr h) = inr (has_left zs ys x h)

pub has_right : {X : Type 0} (xs ys : List X) (x : X) → Has ys x → Has (xs ++ ys) x
has_right [] ys x h = h
has_right (z ∷ zs) ys x h = inr (has_right zs ys x h)

pub has_either : {X : Type 0} (xs ys : List X) (x : X) → Has (xs ++ ys) x → Has xs x ⊎ Has ys x
has_either [] ys x h = inr h
has_either (z ∷ zs) ys x (inl e) = inl (inl e)
has_either (z ∷ zs) ys x (inr h) = elim (has_either zs ys x h) [ inl a ↦ inl (inr a) | inr b ↦ inr b ]

-- the least is one of them, and no greater than any

pub least_is : (ns : List ℕ) (n : ℕ) → Has ns n → (m : ℕ) × (least ns ≡ Some m) × (m ≤ n)
least_is [] n h = absurd h
least_is (k ∷ ks) n (inl e) = first (least ks)
  where
    first : (o : Option ℕ) → (m : ℕ) × (Some (lesser k o) ≡ Some m) × (m ≤ n)
    first None = (k, refl, omega (arith, e))
    first (Some m) = (min k m, refl, omega (arith, e))
least_is (k ∷ ks) n (inr h) =
    let w = least_is ks n h in
    let low : w.0 ≤ n = w.2 in
    (min k w.0, ap (λ (o : Option ℕ). Some (lesser k o)) w.1, omega arith)

pub least_has : (ns : List ℕ) (m : ℕ) → least ns ≡ Some m → Has ns m
least_has [] m e = absurd (let f : None ≡ Some m = e in cc)
least_has (k ∷ ks) m e = next (least ks) refl (λ d. least_has ks m d) e
  where
    next : (o : Option ℕ) → least ks ≡ o → (least ks ≡ Some m → Has ks m) → Some (lesser k o) ≡ Some m → Has (k ∷ ks) m
    next None rest has s = inl (let f : Some k ≡ Some m = s in cc)
    next (Some j) rest has s =
        let f : Some (min k j) ≡ Some m = s in
        let g : min k j ≡ m = (cc) in
        elim (cases_Bool (nat_le k j)) [
          | inl t ↦ inl (grind (arith, nat_tests))
          | inr t ↦ inr (has (rest ∙ ap (λ (n : ℕ). Some n) (grind (arith, nat_tests))))
        ]

-- two lists of which each has a number no greater than any of the other have the same least one
pub same_least : (ns ms : List ℕ) → ((n : ℕ) → Has ns n → (m : ℕ) × Has ms m × (m ≤ n))
    → ((m : ℕ) → Has ms m → (n : ℕ) × Has ns n × (n ≤ m)) → least ns ≡ least ms
same_least ns ms f g = both (least ns) (least ms) refl refl
  where
    both : (a b : Option ℕ) → least ns ≡ a → least ms ≡ b → least ns ≡ least ms
    both None None e d = e ∙ sym d
    both None (Some m) e d =
        let w = g m (least_has ms m d) in
        let v = least_is ns w.0 w.1 in
        absurd (let s : None ≡ Some v.0 = sym e ∙ v.1 in cc)
    both (Some n) None e d =
        let w = f n (least_has ns n e) in
        let v = least_is ms w.0 w.1 in
        absurd (let s : None ≡ Some v.0 = sym d ∙ v.1 in cc)
    both (Some n) (Some m) e d =
        let a = f n (least_has ns n e) in
        let b = least_is ms a.0 a.1 in
        let c = g m (least_has ms m d) in
        let h = least_is ns c.0 c.1 in
        let s : Some m ≡ Some b.0 = sym d ∙ b.1 in
        let t : Some n ≡ Some h.0 = sym e ∙ h.1 in
        let s2 : m ≡ b.0 = (cc) in
        let t2 : n ≡ h.0 = (cc) in
        let l1 : b.0 ≤ a.0 = b.2 in
        let l2 : a.0 ≤ n = a.2 in
        let l3 : h.0 ≤ c.0 = h.2 in
        let l4 : c.0 ≤ m = c.2 in
        let same : n ≡ m = omega (arith, s2, t2) in
        e ∙ (ap (λ (k : ℕ). Some k) same ∙ sym d)
