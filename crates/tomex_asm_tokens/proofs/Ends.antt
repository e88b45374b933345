-- Where the last `*/` is.
use Rattle.std.proofs.Common.{◌≡◌, ℕ, zero, suc, ◌+◌, ◌-◌, ◌<◌, ◌≤◌, Bool, true, false, ◌||◌, nat_lt, List, [], ◌∷◌}
use Rattle.std.proofs.Common.{length, take, drop, get_or}
use Rattle.std.proofs.Common.{refl, sym, ap, ◌∙◌, subst, ⊎_elim, arith}
use Rattle.std.proofs.lemmas.Bool.{cases_Bool, cases_lt, false≢true}
use Rattle.std.proofs.lemmas.Bool.Decides.{nat_tests}
use Rattle.std.proofs.lemmas.List.{drop-drop, drop_more, take_rest}
use Rattle.tomex_asm_tokens.specs.Bare.{begins_end, has_end}

-- no end comes, so none comes later
rest_has_none : (n : ℕ) (text : List ℕ) → has_end text ≡ false → has_end (drop n text) ≡ false
rest_has_none zero text h = h
rest_has_none (suc n) [] h = refl
rest_has_none (suc n) (c ∷ rest) h = rest_has_none n rest (grind arith)

pub none_later : (i k : ℕ) (text : List ℕ) → i ≤ k → has_end (drop i text) ≡ false → has_end (drop k text) ≡ false
none_later i k text le h =
    let e : i + (k - i) ≡ k = omega arith in
    subst (λ (n : ℕ). has_end (drop n text) ≡ false) e
    (sym (ap has_end (drop-drop (k - i) i text)) ∙ rest_has_none (k - i) (drop i text) h)

pub one_sooner : (i k : ℕ) (text : List ℕ) → k ≤ i → has_end (drop i text) ≡ true → has_end (drop k text) ≡ true
one_sooner i k text le h =
    ⊎_elim (λ (e : has_end (drop k text) ≡ true). e)
    (λ (e : has_end (drop k text) ≡ false). absurd (false≢true (sym (none_later k i text le e) ∙ h)))
    (cases_Bool (has_end (drop k text)))

-- one step to the left
pub ends_more : (i : ℕ) (text : List ℕ) → i < length text
    → has_end (drop i text) ≡ (begins_end (drop i text) || has_end (drop (i + 1) text))
ends_more i text h =
    let d : drop i text ≡ get_or text i 0 ∷ drop (i + 1) text = drop_more text i 0 h in
    ap has_end d ∙ ap (λ (xs : List ℕ). begins_end xs || has_end (drop (i + 1) text)) (sym d)

-- the part of the text that a call gets
begins_here : (i : ℕ) (text : List ℕ) (b : Bool) (e : Bool)
    → b ≡ begins_end (take (length text - i) (drop i text)) → b ≡ e
    → begins_end (drop i text) ≡ e
begins_here i text b e h f = sym (ap begins_end (take_rest text i)) ∙ sym h ∙ f

-- the last end begins right before p
pub last_before : (p : ℕ) (text : List ℕ) (b : Bool) → 0 < p → p ≤ length text
    → b ≡ begins_end (take (length text - (p - 1)) (drop (p - 1) text)) → b ≡ true → has_end (drop p text) ≡ false
    → (k : ℕ) → has_end (drop k text) ≡ nat_lt k (p - 1 + 1)
last_before p text b positive within h f none k =
    let e : p - 1 + 1 ≡ p = omega arith in
    let t : begins_end (drop (p - 1) text) ≡ true = begins_here (p - 1) text b true h f in
    let here : has_end (drop (p - 1) text) ≡ true =
    ends_more (p - 1) text (omega arith) ∙ ap (λ (x : Bool). x || has_end (drop (p - 1 + 1) text)) t in
    rw e
    (⊎_elim
    (λ (l : k < p). let s : has_end (drop k text) ≡ true = one_sooner (p - 1) k text (omega arith) here in
    grind (arith, nat_tests))
    (λ (l : p ≤ k). let s : has_end (drop k text) ≡ false = none_later p k text l none in grind (arith, nat_tests))
    (cases_lt k p))

pub none_before : (p : ℕ) (text : List ℕ) (b : Bool) → 0 < p → p ≤ length text
    → b ≡ begins_end (take (length text - (p - 1)) (drop (p - 1) text)) → b ≡ false → has_end (drop p text) ≡ false
    → has_end (drop (p - 1) text) ≡ false
none_before p text b positive within h f none =
    let e : p - 1 + 1 ≡ p = omega arith in
    let t : begins_end (drop (p - 1) text) ≡ false = begins_here (p - 1) text b false h f in
    ends_more (p - 1) text (omega arith) ∙ ap (λ (x : Bool). x || has_end (drop (p - 1 + 1) text)) t
    ∙ ap (λ (n : ℕ). has_end (drop n text)) e ∙ none

-- no end comes at all
pub none_at_all : (p : ℕ) (text : List ℕ) → p ≤ 0 → has_end (drop p text) ≡ false → (k : ℕ)
    → has_end (drop k text) ≡ nat_lt k 0
none_at_all p text z h k =
    let s : has_end (drop k text) ≡ false = none_later p k text (omega arith) h in grind (arith, nat_tests)
