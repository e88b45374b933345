-- The symbol that goes before all others, among lists and their parts.
use Rattle.std.proofs.Common.{◌≡◌, ◌≢◌, ℕ, ◌<◌, ◌⊎◌, ⊎_elim, inl, inr, arith, refl, sym, ap, subst, ◌∙◌}
use Rattle.std.proofs.Common.{Bool, true, false, cond, not, ◌&&◌, ◌==◌, nat_eq, nat_le, List, [], ◌∷◌, ◌++◌, length}
use Rattle.std.proofs.Common.{get_or, All, Option, Some, None, ◌+◌, map, take}
use Rattle.std.specs.List.{Contains}
use Rattle.std.specs.List.Sorted.{IsPermutation}
use Rattle.std.proofs.lemmas.Bool.{cases_Bool, cases_eq, cases_order, eq-eqb, ne_eqb, true≢false}
use Rattle.std.proofs.lemmas.List.{get_or_default, map-append, take_more}
use Rattle.std.proofs.lemmas.List.Elements.{All-contains, Contains-append_cases, Contains-append_left}
use Rattle.std.proofs.lemmas.List.Elements.{Contains-append_right, Contains-push, Contains-push_cases}
use Rattle.std.proofs.lemmas.List.Sorted.{Contains-permutation, IsPermutation-sym, list_any-IsPermutation}
use Rattle.std.proofs.lemmas.Map.Keys.{IsDistinct-IsPermutation, apart_from_distinct}
use Rattle.tomex_symbols.specs.declared.symbol.Symbol.{Symbol}
use Rattle.tomex_symbols.specs.Functions.{AreNumbered, begins_after, best, chosen, function_at, goes_before, holds}
use Rattle.tomex_symbols.specs.Functions.{or_else, reaches}
use Rattle.tomex_symbols.specs.Sweep.{Precedes, last_of}
use Rattle.tomex_symbols.proofs.Rising.{Rises, before_up, not_before_up, up_both, up_refl, up_trans}

-- members of a list

pub nothing : (t : Symbol) → Contains [] t → ⊥
nothing t h = let l = h.1 in absurd (omega arith)

pub cons_cases : (s : Symbol) (ss : List Symbol) (t : Symbol) → Contains (s ∷ ss) t → (s ≡ t) ⊎ Contains ss t
cons_cases s ss t h =
    ⊎_elim
    (λ (u : Contains (s ∷ []) t). ⊎_elim (λ (v : Contains [] t). absurd (nothing t v)) (λ (e : s ≡ t). inl e)
    (Contains-push_cases [] s t u))
    (λ (u : Contains ss t). inr u)
    (Contains-append_cases (s ∷ []) ss t h)

pub here : (s : Symbol) (ss : List Symbol) → Contains (s ∷ ss) s
here s ss = Contains-append_left (s ∷ []) ss s (Contains-push [] s)

pub there : (s : Symbol) (ss : List Symbol) (t : Symbol) → Contains ss t → Contains (s ∷ ss) t
there s ss t h = Contains-append_right (s ∷ []) ss t h

-- s passes the test, and comes last of those that do
pub record IsLast (p : Symbol → Bool) (ss : List Symbol) (s : Symbol) : Type 0 where
  pub one : Contains ss s
  pub passes : p s ≡ true
  pub most : (t : Symbol) → Contains ss t → p t ≡ true → Precedes t s

abbrev pub IsBest : (Symbol → Bool) → List Symbol → Option Symbol → Type 0
IsBest p ss None = (t : Symbol) → Contains ss t → p t ≡ false
IsBest p ss (Some s) = IsLast p ss s

unpassed : (p : Symbol → Bool) (t u : Symbol) → p t ≡ false → p t ≡ true → Precedes t u
unpassed p t u f e = absurd (true≢false (sym e ∙ f))

-- one more symbol in front

skipped : (p : Symbol → Bool) (s : Symbol) (ss : List Symbol) (o : Option Symbol) → p s ≡ false → IsBest p ss o
    → IsBest p (s ∷ ss) o
skipped p s ss None f h = λ t c. ⊎_elim (λ (e : s ≡ t). subst (λ (u : Symbol). p u ≡ false) e f)
    (λ (d : Contains ss t). h t d) (cons_cases s ss t c)
skipped p s ss (Some r) f h = record {
  one = there s ss r h.one;
  passes = h.passes;
  most = λ t c e. ⊎_elim
      (λ (i : s ≡ t). unpassed p t r (subst (λ (u : Symbol). p u ≡ false) i f) e)
      (λ (d : Contains ss t). h.most t d e) (cons_cases s ss t c);
}

-- it comes after those that pass
kept : (p : Symbol → Bool) (s r : Symbol) (ss : List Symbol) → Precedes s r → IsLast p ss r → IsLast p (s ∷ ss) r
kept p s r ss u h = record {
  one = there s ss r h.one;
  passes = h.passes;
  most = λ t c e. ⊎_elim (λ (i : s ≡ t). subst (λ (v : Symbol). Precedes v r) i u)
      (λ (d : Contains ss t). h.most t d e) (cons_cases s ss t c);
}

first : (p : Symbol → Bool) (s : Symbol) (ss : List Symbol) → p s ≡ true
    → ((t : Symbol) → Contains ss t → p t ≡ true → Precedes t s) → IsLast p (s ∷ ss) s
first p s ss e h = record {
  one = here s ss;
  passes = e;
  most = λ t c f. ⊎_elim (λ (i : s ≡ t). subst (λ (v : Symbol). Precedes v s) i (up_refl s))
      (λ (d : Contains ss t). h t d f) (cons_cases s ss t c);
}

chosen_is : (p : Symbol → Bool) (s : Symbol) (ss : List Symbol) (o : Option Symbol) → p s ≡ true → IsBest p ss o
    → IsBest p (s ∷ ss) (chosen s o)
chosen_is p s ss None e h = first p s ss e (λ t c f. unpassed p t s (h t c) f)
chosen_is p s ss (Some r) e h =
    ⊎_elim
    (λ (b : goes_before s r ≡ true). subst (λ (x : Bool). IsBest p (s ∷ ss) (cond x (Some s) (Some r))) (sym b)
    (first p s ss e (λ t c f. up_trans t r s (h.most t c f) (before_up s r b))))
    (λ (b : goes_before s r ≡ false). subst (λ (x : Bool). IsBest p (s ∷ ss) (cond x (Some s) (Some r))) (sym b)
    (kept p s r ss (not_before_up s r b) h))
    (cases_Bool (goes_before s r))

pub best_is : (p : Symbol → Bool) (ss : List Symbol) → IsBest p ss (best p ss)
best_is p [] = λ t c. absurd (nothing t c)
best_is p (s ∷ ss) =
    ⊎_elim
    (λ (e : p s ≡ true). subst (λ (x : Bool). IsBest p (s ∷ ss) (cond x (chosen s (best p ss)) (best p ss))) (sym e)
    (chosen_is p s ss (best p ss) e (best_is p ss)))
    (λ (e : p s ≡ false). subst (λ (x : Bool). IsBest p (s ∷ ss) (cond x (chosen s (best p ss)) (best p ss))) (sym e)
    (skipped p s ss (best p ss) e (best_is p ss)))
    (cases_Bool (p s))

last_step : (p : Symbol → Bool) (s : Symbol) (ss : List Symbol) (o : Option Symbol) → All (Precedes s) ss
    → IsBest p ss o → IsBest p (s ∷ ss) (or_else o (cond (p s) (Some s) None))
last_step p s ss (Some r) u h = kept p s r ss (All-contains (Precedes s) ss r u h.one) h
last_step p s ss None u h =
    ⊎_elim
    (λ (e : p s ≡ true). subst (λ (x : Bool). IsBest p (s ∷ ss) (cond x (Some s) None)) (sym e)
    (first p s ss e (λ t c f. unpassed p t s (h t c) f)))
    (λ (e : p s ≡ false). subst (λ (x : Bool). IsBest p (s ∷ ss) (cond x (Some s) None)) (sym e)
    (skipped p s ss None e h))
    (cases_Bool (p s))

-- of symbols in order the last that passes
pub last_is : (p : Symbol → Bool) (ss : List Symbol) → Rises ss → IsBest p ss (last_of p ss)
last_is p [] r = λ t c. absurd (nothing t c)
last_is p (s ∷ ss) r = last_step p s ss (last_of p ss) r.0 (last_is p ss r.1)

-- of symbols with numbers there is one best

apart_at : (ss : List Symbol) (s t : Symbol) (i j : ℕ) → AreNumbered ss → i < j → j < length ss → get_or ss i s ≡ s
    → get_or ss j t ≡ t → s.number ≡ t.number → ⊥
apart_at ss s t i j h l m e f g =
    let d = apart_from_distinct (λ (a : Symbol) (b : Symbol). a.number == b.number) ss i j s h l m in
    let n : (get_or ss i s).number ≡ (get_or ss j s).number =
    ap (λ (z : Symbol). z.number) e ∙ (g ∙ ap (λ (z : Symbol). z.number) (sym f
    ∙ get_or_default ss j t s m)) in
    true≢false (sym (eq-eqb _ _ n) ∙ d)

pub same_symbol : (ss : List Symbol) (s t : Symbol) → AreNumbered ss → Contains ss s → Contains ss t
    → s.number ≡ t.number → s ≡ t
same_symbol ss s t h c d g =
    ⊎_elim
    (λ (e : c.0 ≡ d.0). sym c.2 ∙ (ap (λ (k : ℕ). get_or ss k s) e ∙ (get_or_default ss d.0 s t d.1 ∙ d.2)))
    (λ (o : (c.0 < d.0) ⊎ (d.0 < c.0)). ⊎_elim
    (λ (l : c.0 < d.0). absurd (apart_at ss s t c.0 d.0 h l d.1 c.2 d.2 g))
    (λ (l : d.0 < c.0). absurd (apart_at ss t s d.0 c.0 h l c.1 d.2 c.2 (sym g))) o)
    (cases_order c.0 d.0)

pub only_one : (p : Symbol → Bool) (ss : List Symbol) (a b : Option Symbol) → AreNumbered ss → IsBest p ss a
    → IsBest p ss b → a ≡ b
only_one p ss None None h u v = refl
only_one p ss None (Some t) h u v = absurd (true≢false (sym v.passes ∙ u t v.one))
only_one p ss (Some s) None h u v = absurd (true≢false (sym u.passes ∙ v s u.one))
only_one p ss (Some s) (Some t) h u v =
    ap (λ (z : Symbol). Some z) (same_symbol ss s t h u.one v.one
    (up_both s t (v.most s u.one u.passes) (u.most t v.one v.passes)))

-- further symbols, none of which passes
pub extended : (p : Symbol → Bool) (ss ts : List Symbol) (o : Option Symbol) → IsBest p ss o
    → ((t : Symbol) → Contains ts t → p t ≡ false) → IsBest p (ss ++ ts) o
extended p ss ts None h f = λ t c. ⊎_elim (λ (d : Contains ss t). h t d) (λ (d : Contains ts t). f t d)
    (Contains-append_cases ss ts t c)
extended p ss ts (Some s) h f = record {
  one = Contains-append_left ss ts s h.one;
  passes = h.passes;
  most = λ t c e. ⊎_elim (λ (d : Contains ss t). h.most t d e)
      (λ (d : Contains ts t). unpassed p t s (f t d) e) (Contains-append_cases ss ts t c);
}

pub moved : (p : Symbol → Bool) (ss ts : List Symbol) (o : Option Symbol) → IsPermutation ss ts → IsBest p ss o
    → IsBest p ts o
moved p ss ts None m h = λ t c. h t (Contains-permutation ts ss t (IsPermutation-sym ss ts m) c)
moved p ss ts (Some s) m h = record {
  one = Contains-permutation ss ts s m h.one;
  passes = h.passes;
  most = λ t c e. h.most t (Contains-permutation ts ss t (IsPermutation-sym ss ts m) c) e;
}

-- tests that agree
pub best_same : (p q : Symbol → Bool) (ss : List Symbol) → ((s : Symbol) → p s ≡ q s) → best p ss ≡ best q ss
best_same p q [] h = refl
best_same p q (s ∷ ss) h =
    ap (λ (b : Bool). cond b (chosen s (best p ss)) (best p ss)) (h s)
    ∙ ap (λ (o : Option Symbol). cond (q s) (chosen s o) o) (best_same p q ss h)

-- the order of the table doesn't count
pub best_moved : (p : Symbol → Bool) (ss ts : List Symbol) → AreNumbered ts → IsPermutation ss ts
    → best p ts ≡ best p ss
best_moved p ss ts n m =
    only_one p ts (best p ts) (best p ss) n (best_is p ts) (moved p ss ts (best p ss) m (best_is p ss))

pub numbered_moved : (ss ts : List Symbol) → AreNumbered ss → IsPermutation ss ts → AreNumbered ts
numbered_moved ss ts n m =
    IsDistinct-IsPermutation (λ a b. a.number == b.number) (λ a b. flips a.number b.number) ss ts m n
  where
    flips : (a b : ℕ) → (a == b) ≡ (b == a)
    flips a b = ⊎_elim (λ (e : a ≡ b). eq-eqb a b e ∙ sym (eq-eqb b a (sym e)))
        (λ (d : a ≢ b). ne_eqb a b d ∙ sym (ne_eqb b a (λ e. d (sym e)))) (cases_eq a b)

pub function_moved : (ss ts : List Symbol) (pc : ℕ) → AreNumbered ts → IsPermutation ss ts
    → function_at ts pc ≡ function_at ss pc
function_moved ss ts pc n m =
    ap (λ (o : Option Symbol). or_else o (best (reaches ts pc) ts)) (best_moved (holds pc) ss ts n m)
    ∙ ap (λ (o : Option Symbol). or_else (best (holds pc) ss) o)
    (best_moved (reaches ts pc) ss ts n m
    ∙ best_same (reaches ts pc) (reaches ss pc) ss
    (λ s. ap (λ (b : Bool). nat_eq s.size 0 && nat_le s.address pc && not b)
    (sym (list_any-IsPermutation (λ t. begins_after s.address pc t) ss ts m))))

-- the function of one more address
pub functions_more : (ss ts : List Symbol) (xs : List ℕ) (i : ℕ) (os : List (Option Symbol)) (o : Option Symbol)
    → AreNumbered ts → IsPermutation ss ts → i < length xs → os ≡ map (function_at ss) (take i xs)
    → o ≡ function_at ts (get_or xs i 0) → os ++ o ∷ [] ≡ map (function_at ss) (take (i + 1) xs)
functions_more ss ts xs i os o n m l e f =
    ap (λ (z : Option Symbol). os ++ z ∷ []) (f ∙ function_moved ss ts (get_or xs i 0) n m)
    ∙ (ap (λ (z : List (Option Symbol)). z ++ function_at ss (get_or xs i 0) ∷ []) e
    ∙ (sym (map-append (function_at ss) (take i xs) (get_or xs i 0 ∷ []))
    ∙ ap (map (function_at ss)) (sym (take_more xs i 0 l))))
