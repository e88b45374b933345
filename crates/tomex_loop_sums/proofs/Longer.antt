-- One more visit: it is the longest of its loop if it has more rounds than the longest before it.
use Rattle.std.proofs.Common.{ℕ, ◌+◌, ◌<◌, ◌≤◌, ◌≡◌, ◌∙◌, arith, refl, sym, ap, inl, inr}
use Rattle.std.proofs.Common.{List, [], ◌∷◌, ◌++◌, Option, Some, None, length, get_or, set, subst, take}
use Rattle.std.specs.Prelude.{IfSome, if◌then◌else◌}
use Rattle.std.proofs.lemmas.Bool.{cases_eq, cases_lt, le-ltb, lt-ltb}
use Rattle.std.proofs.lemmas.List.{get_or_append_left, get_or_push, get_or_read, get_or-set_other, get_or-set_same}
use Rattle.std.proofs.lemmas.List.{length_push, length-take-le, take_more}
use Rattle.tomex_loop_sums.specs.Longest.{IsLongest, IsLongestVisit, is_longer}

-- the visits so far, and one more
visits : (P : ℕ → Type 0) (xs : List ℕ) (m n : ℕ)
    → ((u : ℕ) → u < length xs → get_or xs u 0 ≡ n → P u) → (m ≡ n → P (length xs))
    → (u : ℕ) → u < length (xs ++ (m ∷ [])) → get_or (xs ++ (m ∷ [])) u 0 ≡ n → P u
visits P xs m n before last u l is = elim (cases_lt u (length xs)) [
  | inl low ↦ before u low (sym (get_or_append_left xs (m ∷ []) 0 u low) ∙ is)
  | inr high ↦
      let at : length xs ≡ u = omega (arith, length_push xs m, l, high) in
      subst P at (last (sym (get_or_push xs m 0 u at) ∙ is))
]

earlier : (P : ℕ → Type 0) (xs : List ℕ) (m n v : ℕ) → v < length xs
    → ((u : ℕ) → u < v → get_or xs u 0 ≡ n → P u)
    → (u : ℕ) → u < v → get_or (xs ++ (m ∷ [])) u 0 ≡ n → P u
earlier P xs m n v l before u low is =
    before u low (sym (get_or_append_left xs (m ∷ []) 0 u (omega (arith, l, low))) ∙ is)

keeps : (xs rounds : List ℕ) (m n v : ℕ) → IsLongestVisit n xs rounds v
    → (m ≡ n → get_or rounds (length xs) 0 ≤ get_or rounds v 0) → IsLongestVisit n (xs ++ (m ∷ [])) rounds v
keeps xs rounds m n v was no_more =
    let before = was.before in
    record {
      before = omega (arith, length_push xs m, before);
      is = get_or_append_left xs (m ∷ []) 0 v before ∙ was.is;
      most = visits (λ u. get_or rounds u 0 ≤ get_or rounds v 0) xs m n was.most no_more;
      first = earlier (λ u. get_or rounds u 0 < get_or rounds v 0) xs m n v before was.first;
    }

takes : (xs rounds : List ℕ) (n : ℕ)
    → ((u : ℕ) → u < length xs → get_or xs u 0 ≡ n → get_or rounds u 0 < get_or rounds (length xs) 0)
    → IsLongestVisit n (xs ++ (n ∷ [])) rounds (length xs)
takes xs rounds n more = record {
  before = omega (arith, length_push xs n);
  is = get_or_push xs n 0 (length xs) refl;
  most = visits (λ u. get_or rounds u 0 ≤ get_or rounds (length xs) 0) xs n n
      (λ u l is. let m = more u l is in omega (arith, m)) (λ e. omega arith);
  first = λ u l is. more u l (sym (get_or_append_left xs (n ∷ []) 0 u l) ∙ is);
}

pub longest_here : (xs rounds : List ℕ) (n : ℕ) (o : Option ℕ) → IsLongest n xs rounds o
    → IsLongest n (xs ++ (n ∷ [])) rounds (if is_longer rounds (length xs) o then Some (length xs) else o)
longest_here xs rounds n None was = takes xs rounds n (λ u l is. absurd (was u l is))
longest_here xs rounds n (Some v) was = elim (cases_lt (get_or rounds v 0) (get_or rounds (length xs) 0)) [
  | inl more ↦
      rw (lt-ltb (get_or rounds v 0) (get_or rounds (length xs) 0) more)
      (takes xs rounds n (λ u l is. let m = was.most u l is in omega (arith, m, more)))
  | inr no_more ↦
      rw (le-ltb (get_or rounds v 0) (get_or rounds (length xs) 0) no_more)
      (keeps xs rounds n n v was (λ e. no_more))
]

pub longest_there : (xs rounds : List ℕ) (m n : ℕ) (o : Option ℕ) → (m ≡ n → ⊥) → IsLongest n xs rounds o
    → IsLongest n (xs ++ (m ∷ [])) rounds o
longest_there xs rounds m n None other was = visits (λ u. ⊥) xs m n was other
longest_there xs rounds m n (Some v) other was = keeps xs rounds m n v was (λ e. absurd (other e))

pub longest_low : (xs rounds : List ℕ) (n : ℕ) (o : Option ℕ) → IsLongest n xs rounds o
    → IfSome o (λ u. u < length xs)
longest_low xs rounds n None was = tt
longest_low xs rounds n (Some v) was = was.before

-- one more visit among those of all loops
pub longest_more : (loops rounds : List ℕ) (longest : List (Option ℕ)) (v n : ℕ) (was new : Option ℕ)
    → v < length loops → get_or loops v 0 < length longest → was ≡ get_or longest (get_or loops v 0) was
    → new ≡ (if is_longer rounds v was then Some v else was)
    → IsLongest n (take v loops) rounds (get_or longest n None)
    → IsLongest n (take (v + 1) loops) rounds (get_or (set longest (get_or loops v 0) new) n None)
longest_more loops rounds longest v n was new l small is is_new so =
    let many : length (take v loops) ≡ v = length-take-le v loops (omega (arith, l)) in
    elim (cases_eq (get_or loops v 0) n) [
      | inl same ↦
          let read : get_or longest n None ≡ was = ap (λ (j : ℕ). get_or longest j None) (sym same)
          ∙ sym (get_or_read longest (get_or loops v 0) was small is None) in
          let wrote : get_or (set longest (get_or loops v 0) new) n None
          ≡ (if is_longer rounds v was then Some v else was) =
          ap (λ (j : ℕ). get_or (set longest (get_or loops v 0) new) j None) (sym same)
          ∙ get_or-set_same longest (get_or loops v 0) new None small ∙ is_new in
          rw (wrote, take_more loops v 0 l, same)
          (rw (many, read) at (longest_here (take v loops) rounds n (get_or longest n None) so))
      | inr other ↦
          let kept : get_or (set longest (get_or loops v 0) new) n None ≡ get_or longest n None =
          get_or-set_other longest (get_or loops v 0) n new None (λ (z : n ≡ get_or loops v 0). other (sym z)) in
          rw (kept, take_more loops v 0 l)
          (longest_there (take v loops) rounds (get_or loops v 0) n (get_or longest n None) other so)
    ]
