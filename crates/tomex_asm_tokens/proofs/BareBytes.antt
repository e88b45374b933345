-- A text without its comments, from left to right.
use Rattle.std.proofs.Common.{◌≡◌, ℕ, zero, suc, ◌+◌, ◌<◌, ◌≤◌, nat_lt, List, [], ◌∷◌, ◌++◌, length, drop, get_or}
use Rattle.std.proofs.Common.{Option}
use Rattle.std.proofs.Common.{refl, sym, ap, ◌∙◌, arith}
use Rattle.std.specs.List.{slice_get}
use Rattle.std.proofs.lemmas.List.{append-nil, drop-drop, drop_all, drop_more}
use Rattle.tomex_asm_tokens.specs.declared.mode.Mode.{Mode}
use Rattle.tomex_asm_tokens.specs.declared.mode.Mode.TheVariants.{Code}
use Rattle.tomex_asm_tokens.specs.Bare.{has_end, mode_after, bare_byte, bare_from, bare}

pub slice_get-drop : {X : Type 0} (n : ℕ) (xs : List X) → slice_get (drop n xs) 0 ≡ slice_get xs n
slice_get-drop zero xs = refl
slice_get-drop (suc n) [] = refl
slice_get-drop (suc n) (x ∷ xs) = slice_get-drop n xs

pub bare_more : (mode : Mode) (i end : ℕ) (text : List ℕ) (c : ℕ) (next : Option ℕ) (after : Mode) → i < length text
    → c ≡ get_or text i 0 → next ≡ slice_get text (i + 1) → ((k : ℕ) → has_end (drop k text) ≡ nat_lt k end)
    → after ≡ mode_after mode c next (nat_lt (i + 2) end)
    → bare_from mode (drop i text) ≡ bare_byte mode after c ∷ bare_from after (drop (i + 1) text)
bare_more mode i end text c next after h e f ends b =
    let d : drop i text ≡ c ∷ drop (i + 1) text =
    drop_more text i 0 h ∙ ap (λ (x : ℕ). x ∷ drop (i + 1) text) (sym e) in
    let two : i + 1 + 1 ≡ i + 2 = omega arith in
    let closed : has_end (drop 1 (drop (i + 1) text)) ≡ nat_lt (i + 2) end =
    ap has_end (drop-drop 1 (i + 1) text) ∙ ap (λ (n : ℕ). has_end (drop n text)) two ∙ ends (i + 2) in
    let m : mode_after mode c (slice_get (drop (i + 1) text) 0) (has_end (drop 1 (drop (i + 1) text))) ≡ after =
    ap (λ (o : Option ℕ). mode_after mode c o (has_end (drop 1 (drop (i + 1) text))))
    (slice_get-drop (i + 1) text ∙ sym f)
    ∙ ap (mode_after mode c next) closed ∙ sym b in
    ap (bare_from mode) d ∙ ap (λ (x : Mode). bare_byte mode x c ∷ bare_from x (drop (i + 1) text)) m

pub bare_all : (bytes : List ℕ) (mode : Mode) (i : ℕ) (text : List ℕ) → length text ≤ i
    → bytes ++ bare_from mode (drop i text) ≡ bare_from Code text → bytes ≡ bare text
unfolding bare
bare_all bytes mode i text h e =
    sym (append-nil bytes) ∙ ap (λ (xs : List ℕ). bytes ++ bare_from mode xs) (sym (drop_all i text h)) ∙ e
