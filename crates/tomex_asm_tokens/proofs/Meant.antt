-- The bytes for which a string stands, from left to right.
use Rattle.std.proofs.Common.{◌≡◌, ℕ, zero, suc, ◌+◌, ◌-◌, ◌<◌, ◌≤◌, List, [], ◌∷◌, length, drop, get_or, cond}
use Rattle.std.proofs.Common.{true, false, nat_eq, refl, sym, ap, ◌∙◌, arith, Bool}
use Rattle.std.proofs.lemmas.List.{drop_all, drop_more}
use Rattle.std.proofs.lemmas.Bool.Decides.{nat_tests}
use Rattle.tomex_asm_tokens.specs.Tokens.{escape_length}
use Rattle.tomex_asm_tokens.specs.Strings.{escape_value, bytes_from}

-- what is left, where the bytes up to next belong to an escape
abbrev pub meant : ℕ → ℕ → List ℕ → List ℕ
meant next i inner = bytes_from (next - i) (drop i inner)

pub meant_skips : (next i : ℕ) (inner : List ℕ) → i < length inner → i < next
    → meant next i inner ≡ meant next (i + 1) inner
meant_skips next i inner h s =
    let k : next - i ≡ suc (next - (i + 1)) = omega arith in
    ap (λ (n : ℕ). bytes_from n (drop i inner)) k ∙ ap (bytes_from (suc (next - (i + 1)))) (drop_more inner i 0 h)

pub meant_here : (next i c n : ℕ) (inner : List ℕ) → i < length inner → next ≤ i → c ≡ get_or inner i 0
    → n ≡ escape_length (drop (i + 1) inner)
    → meant next i inner
    ≡ cond (nat_eq c 92) (escape_value (drop (i + 1) inner) ∷ bytes_from n (drop (i + 1) inner))
    (c ∷ bytes_from 0 (drop (i + 1) inner))
meant_here next i c n inner h le e f =
    let k : next - i ≡ 0 = omega arith in
    let d : drop i inner ≡ c ∷ drop (i + 1) inner =
    drop_more inner i 0 h ∙ ap (λ (x : ℕ). x ∷ drop (i + 1) inner) (sym e) in
    ap (λ (m : ℕ). bytes_from m (drop i inner)) k ∙ ap (bytes_from 0) d
    ∙ ap (λ (m : ℕ). cond (nat_eq c 92) (escape_value (drop (i + 1) inner) ∷ bytes_from m (drop (i + 1) inner))
    (c ∷ bytes_from 0 (drop (i + 1) inner))) (sym f)

pub meant_escape : (next after i c n b : ℕ) (inner xs : List ℕ) → i < length inner → next ≤ i → c ≡ get_or inner i 0
    → c ≡ 92 → xs ≡ drop (i + 1) inner → n ≡ escape_length xs → b ≡ escape_value xs → after ≡ i + 1 + n
    → meant next i inner ≡ b ∷ meant after (i + 1) inner
meant_escape next after i c n b inner xs h le e q x f v a =
    let t : nat_eq c 92 ≡ true = grind (arith, nat_tests) in
    let k : after - (i + 1) ≡ n = omega arith in
    meant_here next i c n inner h le e (f ∙ ap escape_length x)
    ∙ ap (λ (b : Bool). cond b (escape_value (drop (i + 1) inner) ∷ bytes_from n (drop (i + 1) inner))
    (c ∷ bytes_from 0 (drop (i + 1) inner))) t
    ∙ ap (λ (m : ℕ). m ∷ bytes_from n (drop (i + 1) inner)) (sym (v ∙ ap escape_value x))
    ∙ ap (λ (m : ℕ). b ∷ bytes_from m (drop (i + 1) inner)) (sym k)

pub meant_goes : (next later i c : ℕ) (inner : List ℕ) → i < length inner → next ≤ i → c ≡ get_or inner i 0
    → (c ≡ 92 → ⊥) → later ≡ next → meant next i inner ≡ c ∷ meant later (i + 1) inner
meant_goes next later i c inner h le e q l =
    let t : nat_eq c 92 ≡ false = grind (arith, nat_tests) in
    let k : later - (i + 1) ≡ 0 = omega arith in
    meant_here next i c (escape_length (drop (i + 1) inner)) inner h le e refl
    ∙ ap (λ (b : Bool). cond b (escape_value (drop (i + 1) inner)
    ∷ bytes_from (escape_length (drop (i + 1) inner)) (drop (i + 1) inner))
    (c ∷ bytes_from 0 (drop (i + 1) inner))) t
    ∙ ap (λ (m : ℕ). c ∷ bytes_from m (drop (i + 1) inner)) (sym k)

pub meant_ends : (next i : ℕ) (inner : List ℕ) → length inner ≤ i → meant next i inner ≡ []
meant_ends next i inner h = ap (bytes_from (next - i)) (drop_all i inner h) ∙ nothing (next - i) where
  nothing : (k : ℕ) → bytes_from k [] ≡ []
  nothing zero = refl
  nothing (suc k) = refl
