-- Which loops a place is in, from those that the head of its loop is in.
use Rattle.std.proofs.Common.{ℕ, zero, suc, ◌+◌, ◌<◌, ◌≤◌, ◌≡◌, ◌∙◌, refl, sym, ap, subst, arith, cond, Bool, true}
use Rattle.std.proofs.Common.{false, List}
use Rattle.std.proofs.Common.{[], ◌∷◌, ◌++◌, length, get_or, Option, Some, None, eqb, leb, ⊎_elim}
use Rattle.std.specs.Prelude.{IfSome, ◌||◌, ◌==◌}
use Rattle.std.proofs.lemmas.Bool.{cases_lt, ne_eqb, le-leb, lt-leb}
use Rattle.std.proofs.lemmas.List.{get_or_append_left, get_or_push, length_push}
use Rattle.tomex_loops.specs.Jumps.{AreJumps, next_to}
use Rattle.tomex_loops.specs.Loops.{heads_around, heads_below, is_among, is_in_loop}
use Rattle.tomex_loops.specs.Ways.{AreLower, loop_in}

module _ (loop : ℕ → Option ℕ) (lower : (x : ℕ) → IfSome (loop x) (λ h. h < x)) where
  pub below_more : (h n : ℕ) (o : Option ℕ) → IfSome o (λ k. k < h) → h ≤ n → IfSome o (λ k. k < n)
  below_more h n None low le = tt
  below_more h n (Some k) low le = omega (arith, low, le)

  -- as many as are needed
  enough : (n m : ℕ) (o : Option ℕ) → IfSome o (λ h. h < n) → IfSome o (λ h. h < m)
      → heads_around loop n o ≡ heads_around loop m o
  enough n m None a b = refl
  enough zero m (Some h) a b = absurd (omega (arith, a))
  enough (suc n) zero (Some h) a b = absurd (omega (arith, b))
  enough (suc n) (suc m) (Some h) a b = ap (λ (xs : List ℕ). h ∷ xs)
      (enough n m (loop h) (below_more h n (loop h) (lower h) (omega (arith, a)))
      (below_more h m (loop h) (lower h) (omega (arith, b))))

  -- no loop around has a later head
  none_later : (n v : ℕ) (o : Option ℕ) → IfSome o (λ h. h < v) → is_among (heads_around loop n o) v ≡ false
  none_later n v None a = refl
  none_later zero v (Some h) a = refl
  none_later (suc n) v (Some h) a =
      let other : eqb h v ≡ false = ne_eqb h v (λ e. omega (arith, a, e)) in
      rw other (none_later n v (loop h) (below_more h v (loop h) (lower h) (omega (arith, a))))

  around_next : (x p v : ℕ) → p < x → is_among (heads_around loop x (Some p)) v ≡ is_in_loop loop v p
  around_next zero p v h = absurd (omega (arith, h))
  around_next (suc n) p v h = ap (λ (xs : List ℕ). (p == v) || is_among xs v)
      (enough n p (loop p) (below_more p n (loop p) (lower p) (omega (arith, h))) (lower p))

  pub in_next : (x p v : ℕ) → loop x ≡ Some p → is_in_loop loop v x ≡ ((x == v) || is_in_loop loop v p)
  in_next x p v is =
      let low : p < x = subst (λ (o : Option ℕ). IfSome o (λ h. h < x)) is (lower x) in
      ap (λ (o : Option ℕ). (x == v) || is_among (heads_around loop x o) v) is
      ∙ ap (λ (b : Bool). (x == v) || b) (around_next x p v low)

  pub in_around : (x p v : ℕ) → loop x ≡ Some p → v < x → is_in_loop loop v x ≡ is_in_loop loop v p
  in_around x p v is h = in_next x p v is ∙ ap (λ (b : Bool). b || is_in_loop loop v p) (ne_eqb x v (λ e. omega
      (arith, h, e)))

  pub in_none : (x v : ℕ) → loop x ≡ None → v < x → is_in_loop loop v x ≡ false
  in_none x v is h = ap (λ (o : Option ℕ). (x == v) || is_among (heads_around loop x o) v) is
      ∙ ap (λ (b : Bool). b || false) (ne_eqb x v (λ e. omega (arith, h, e)))

  pub in_last : (x v : ℕ) → x ≤ v → is_in_loop loop v x ≡ (x == v)
  in_last x v h = ap (λ (b : Bool). (x == v) || b) (none_later x v (loop x) (below_more x v (loop x) (lower x) h))
      ∙ (elim (x == v) as (λ b. (b || false) ≡ b) [ true ↦ refl | false ↦ refl ])

-- one jump more
pub jumps_push : (loops : List (Option ℕ)) (jumps : List ℕ) (j : ℕ) → AreJumps loops jumps → j ≤ length jumps
    → ((h : ℕ) → loop_in loops (length jumps) ≡ Some h → j < length jumps)
    → ((v : ℕ) → v ≤ j → is_in_loop (loop_in loops) v (length jumps) ≡ is_in_loop (loop_in loops) v j)
    → AreJumps loops (jumps ++ j ∷ [])
jumps_push loops jumps j are low less far =
    let many = length_push jumps j in
    record {
      low = λ x h. ⊎_elim
          (λ (old : x < length jumps). let e = get_or_append_left jumps (j ∷ []) 0 x old in let l = are.low x old in
          omega (arith, e, l))
          (λ (new : length jumps ≤ x). let e = get_or_push jumps j 0 x (omega (arith, many, h, new)) in
          omega (arith, e, low, new))
          (cases_lt x (length jumps));
      less = λ x p h is. ⊎_elim
          (λ (old : x < length jumps). let e = get_or_append_left jumps
          (j ∷ []) 0 x old in let l = are.less x p old is in
          omega (arith, e, l))
          (λ (new : length jumps ≤ x). let at : x ≡ length jumps = omega (arith, many, h, new) in
          let e = get_or_push jumps j 0 x (omega (arith, at)) in
          let l = less p (subst (λ (y : ℕ). loop_in loops y ≡ Some p) at is) in
          omega (arith, e, l, at))
          (cases_lt x (length jumps));
      far = λ x v h le. ⊎_elim
          (λ (old : x < length jumps). let e : get_or
          (jumps ++ j ∷ []) x 0 ≡ get_or jumps x 0 = get_or_append_left jumps (j ∷ []) 0 x old in
          are.far x v old (omega (arith, e, le))
          ∙ ap (λ (y : ℕ). is_in_loop (loop_in loops) v y) (sym e))
          (λ (new : length jumps ≤ x). let at : length jumps ≡ x = omega (arith, many, h, new) in
          let e : get_or (jumps ++ j ∷ []) x 0 ≡ j = get_or_push jumps j 0 x at in
          ap (λ (y : ℕ). is_in_loop (loop_in loops) v y) (sym at) ∙ far v (omega (arith, e, le))
          ∙ ap (λ (y : ℕ). is_in_loop (loop_in loops) v y) (sym e))
          (cases_lt x (length jumps));
    }

pub no_jumps : (loops : List (Option ℕ)) (jumps : List ℕ) → jumps ≡ [] → AreJumps loops jumps
no_jumps loops jumps none = rw none (record {
  low = λ x h. absurd (omega (arith, h));
  less = λ x p h is. absurd (omega (arith, h));
  far = λ x v h le. absurd (omega (arith, h));
})

-- one step of a search
pub search_on : (loops : List (Option ℕ)) (jumps : List ℕ) (head inner around : ℕ) → AreLower loops
    → AreJumps loops jumps
    → inner < length jumps → loop_in loops inner ≡ Some around → head < inner
    → is_in_loop (loop_in loops) head inner
    ≡ is_in_loop (loop_in loops) head (next_to (get_or jumps inner 0) around head)
search_on loops jumps head inner around lower are inside is low = ⊎_elim
    (λ (near : get_or jumps inner 0 < head).
    in_around (loop_in loops) lower inner around head is low
    ∙ ap (λ (y : ℕ). is_in_loop (loop_in loops) head y)
    (sym (ap (λ (b : Bool). cond b (get_or jumps inner 0) around) (lt-leb head (get_or jumps inner 0) near))))
    (λ (far : head ≤ get_or jumps inner 0).
    are.far inner head inside far
    ∙ ap (λ (y : ℕ). is_in_loop (loop_in loops) head y)
    (sym (ap (λ (b : Bool). cond b (get_or jumps inner 0) around) (le-leb head (get_or jumps inner 0) far))))
    (cases_lt (get_or jumps inner 0) head)

pub next_lower : (jump around head inner : ℕ) → jump < inner → around < inner → next_to jump around head < inner
next_lower jump around head inner a b =
    elim (leb head jump) as (λ t. cond t jump around < inner) [ true ↦ a | false ↦ b ]

pub heads_below_few : (heads : ℕ → Bool) (n : ℕ) → heads_below heads n ≤ n
heads_below_few heads zero = omega arith
heads_below_few heads (suc n) =
    let few = heads_below_few heads n in
    elim (heads n) as (λ b. heads_below heads n + cond b 1 0 ≤ suc n) [
      | true ↦ omega (arith, few)
      | false ↦ omega
          (arith, few)
    ]

pub heads_below_same : (one two : ℕ → Bool) (n : ℕ) → ((x : ℕ) → x < n → one x ≡ two x)
    → heads_below one n ≡ heads_below two n
heads_below_same one two zero are = refl
heads_below_same one two (suc n) are =
    ap (λ (k : ℕ). k + cond (one n) 1 0) (heads_below_same one two n (λ x h. are x (omega (arith, h))))
    ∙ ap (λ (b : Bool). heads_below two n + cond b 1 0) (are n (omega arith))
