-- Symbols that are alike, one by one, and whose numbers rise, are the functions of the same addresses.
use Rattle.std.proofs.Common.{◌≡◌, ℕ, ◌+◌, ◌<◌, ◌≤◌, List, [], ◌∷◌, Bool, true, false, cond, ◌&&◌, ◌||◌}
use Rattle.std.proofs.Common.{◌==◌, nat_lt, Option, Some, None, refl, sym, ◌∙◌, ap, arith}
use Rattle.std.specs.Prelude.{⊤}
use Rattle.std.specs.List.{list_any}
use Rattle.std.proofs.lemmas.Bool.{lt-ltb}
use Rattle.tomex_symbols.specs.declared.symbol.Binding.{Binding}
use Rattle.tomex_symbols.specs.declared.symbol.Kind.{Kind}
use Rattle.tomex_symbols.specs.declared.symbol.Symbol.{Symbol}
use Rattle.tomex_symbols.specs.Functions.{begins_after, best, chosen, function_at, goes_before, holds, or_else, rank}
use Rattle.tomex_symbols.specs.Functions.{rank_of, reaches}
use Rattle.tomex_cut.specs.Laws.{AreAlike, IsAlike, IsSameFunction}

-- numbers from k on, each above the one before
abbrev pub Ascend : ℕ → List Symbol → Type 0
Ascend k [] = ⊤
Ascend k (s ∷ ss) = (k ≤ s.number) × Ascend (s.number + 1) ss

pub ascend_from : (j k : ℕ) (ss : List Symbol) → j ≤ k → Ascend k ss → Ascend j ss
ascend_from j k [] l h = tt
ascend_from j k (s ∷ ss) l h = let m = h.0 in (omega arith, h.1)

-- the same function, with numbers from k and l on
abbrev IsSameFrom : List ℕ → List ℕ → ℕ → ℕ → Option Symbol → Option Symbol → Type 0
IsSameFrom old new k l None None = ⊤
IsSameFrom old new k l (Some s) (Some t) = IsAlike old s new t × (k ≤ s.number) × (l ≤ t.number)
IsSameFrom old new k l _ _ = ⊥

same_from : (old new : List ℕ) (j k i l : ℕ) (o p : Option Symbol) → j ≤ k → i ≤ l → IsSameFrom old new k l o p
    → IsSameFrom old new j i o p
same_from old new j k i l None None a b h = tt
same_from old new j k i l (Some s) (Some t) a b h = let m = h.1 in let n = h.2 in (h.0, omega arith, omega arith)
same_from old new j k i l None (Some t) a b h = absurd h
same_from old new j k i l (Some s) None a b h = absurd h

same_rank : (old new : List ℕ) (s t : Symbol) → IsAlike old s new t → rank_of s ≡ rank_of t
same_rank old new s t h =
    ap (λ (k : Kind). rank k s.binding) (sym h.kind) ∙ ap (λ (b : Binding). rank t.kind b) (sym h.binding)

-- the order of two symbols, by numbers
same_test : (a b c d m n i j : ℕ) → m < n → i < j
    → (nat_lt b a || a == b && (nat_lt c d || c == d && nat_lt m n))
    ≡ (nat_lt b a || a == b && (nat_lt c d || c == d && nat_lt i j))
same_test a b c d m n i j h l = rw (lt-ltb m n h, lt-ltb i j l) refl

same_order : (old new : List ℕ) (s t q r : Symbol) → IsAlike old s new t → IsAlike old q new r
    → s.number < q.number → t.number < r.number → goes_before s q ≡ goes_before t r
same_order old new s t q r h l m n =
    same_test s.address q.address (rank_of s) (rank_of q) s.number q.number t.number r.number m n
    ∙ rw (sym h.address, sym l.address, same_rank old new s t h, same_rank old new q r l) refl

chosen_alike : (old new : List ℕ) (s t : Symbol) (o p : Option Symbol) (k l : ℕ) → IsAlike old s new t
    → k ≤ s.number → l ≤ t.number → IsSameFrom old new (s.number + 1) (t.number + 1) o p
    → IsSameFrom old new k l (chosen s o) (chosen t p)
chosen_alike old new s t None None k l h a b i = (h, a, b)
chosen_alike old new s t (Some q) (Some r) k l h a b i =
    let m = i.1 in
    let n = i.2 in
    let same = same_order old new s t q r h i.0 (omega arith) (omega arith) in
    by (goes_before s q) (goes_before t r) same
  where
    by : (x y : Bool) → x ≡ y
        → IsSameFrom old new k l (cond x (Some s) (Some q)) (cond y (Some t) (Some r))
    by true true e = (h, a, b)
    by false false e = let m = i.1 in let n = i.2 in (i.0, omega arith, omega arith)
    by true false e = absurd (cc)
    by false true e = absurd (cc)
chosen_alike old new s t None (Some r) k l h a b i = absurd i
chosen_alike old new s t (Some q) None k l h a b i = absurd i

-- tests that are the same of symbols that are alike
record Agree (old new : List ℕ) (p q : Symbol → Bool) : Type 0 where
  each : (s t : Symbol) → IsAlike old s new t → p s ≡ q t

best_alike : (old new : List ℕ) (p q : Symbol → Bool) (ss ts : List Symbol) (k l : ℕ) → Agree old new p q
    → AreAlike old ss new ts → Ascend k ss → Ascend l ts → IsSameFrom old new k l (best p ss) (best q ts)
best_alike old new p q [] [] k l agree h a b = tt
best_alike old new p q (s ∷ ss) (t ∷ ts) k l agree h a b =
    let m = a.0 in
    let n = b.0 in
    let rest = best_alike old new p q ss ts (s.number + 1) (t.number + 1) agree h.1 a.1 b.1 in
    let one = chosen_alike old new s t (best p ss) (best q ts) k l h.0 a.0 b.0 rest in
    let other = same_from old new k (s.number + 1) l (t.number + 1) (best p ss) (best q ts) (omega arith) (omega arith)
    rest in
    either (p s) (q t) (agree.each s t h.0) one other
  where
    either : (x y : Bool) → x ≡ y → IsSameFrom old new k l (chosen s (best p ss)) (chosen t (best q ts))
        → IsSameFrom old new k l (best p ss) (best q ts)
        → IsSameFrom old new k l (cond x (chosen s (best p ss)) (best p ss)) (cond y (chosen t (best q ts)) (best q ts))
    either true true e one other = one
    either false false e one other = other
    either true false e one other = absurd (cc)
    either false true e one other = absurd (cc)
best_alike old new p q [] (t ∷ ts) k l agree h a b = absurd h
best_alike old new p q (s ∷ ss) [] k l agree h a b = absurd h

any_alike : (old new : List ℕ) (p q : Symbol → Bool) (ss ts : List Symbol) → Agree old new p q
    → AreAlike old ss new ts → list_any p ss ≡ list_any q ts
any_alike old new p q [] [] agree h = refl
any_alike old new p q (s ∷ ss) (t ∷ ts) agree h =
    rw (agree.each s t h.0, any_alike old new p q ss ts agree h.1) refl
any_alike old new p q [] (t ∷ ts) agree h = absurd h
any_alike old new p q (s ∷ ss) [] agree h = absurd h

holds_agrees : (old new : List ℕ) (pc : ℕ) → Agree old new (holds pc) (holds pc)
holds_agrees old new pc = record { each = λ s t h. rw (sym h.address, sym h.size) refl }

begins_agrees : (old new : List ℕ) (a pc : ℕ) → Agree old new (begins_after a pc) (begins_after a pc)
begins_agrees old new a pc = record { each = λ s t h. rw (sym h.address) refl }

reaches_agrees : (old new : List ℕ) (ss ts : List Symbol) (pc : ℕ) → AreAlike old ss new ts
    → Agree old new (reaches ss pc) (reaches ts pc)
reaches_agrees old new ss ts pc alike = record {
  each = λ s t h.
      rw (
        sym h.address,
        sym h.size,
        any_alike old new (begins_after t.address pc) (begins_after t.address pc) ss ts
            (begins_agrees old new t.address pc) alike,
      ) refl;
}

or_alike : (old new : List ℕ) (k l : ℕ) (o p q r : Option Symbol) → IsSameFrom old new k l o p
    → IsSameFrom old new k l q r → IsSameFunction old (or_else o q) new (or_else p r)
or_alike old new k l (Some s) (Some t) q r h i = h.0
or_alike old new k l None None None None h i = tt
or_alike old new k l None None (Some s) (Some t) h i = i.0
or_alike old new k l None None None (Some t) h i = absurd i
or_alike old new k l None None (Some s) None h i = absurd i
or_alike old new k l None (Some t) q r h i = absurd h
or_alike old new k l (Some s) None q r h i = absurd h

pub same_functions : (old new : List ℕ) (ss ts : List Symbol) (k l pc : ℕ) → AreAlike old ss new ts → Ascend k ss
    → Ascend l ts → IsSameFunction old (function_at ss pc) new (function_at ts pc)
same_functions old new ss ts k l pc h a b =
    or_alike old new k l (best (holds pc) ss) (best (holds pc) ts) (best (reaches ss pc) ss) (best (reaches ts pc) ts)
    (best_alike old new (holds pc) (holds pc) ss ts k l (holds_agrees old new pc) h a b)
    (best_alike old new (reaches ss pc) (reaches ts pc) ss ts k l (reaches_agrees old new ss ts pc h) h a b)
