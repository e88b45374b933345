-- Lines, from left to right.
use Rattle.std.proofs.Common.{◌≡◌, ℕ, ◌+◌, ◌-◌, ◌<◌, ◌≤◌, Bool, true, false, List, [], ◌∷◌, ◌++◌, length, take, drop}
use Rattle.std.proofs.Common.{get_or, cond, nat_eq, sym, ap, ◌∙◌, arith, Result, Ok, Err}
use Rattle.std.proofs.lemmas.Bool.Decides.{nat_tests}
use Rattle.std.proofs.lemmas.List.{drop_all, drop_more, take_more, length-drop, get_or-drop}
use Rattle.tomex_asm_places.specs.Places.{State}
use Rattle.tomex_asm_numbers.specs.Table.{Definition}
use Rattle.tomex_asm_words.specs.declared.frame.Frame.{Frame}
use Rattle.tomex_asm.specs.declared.refusal.Refusal.{Refusal}
use Rattle.tomex_asm.specs.Assembled.{Both, in_line, lines_from, place_line, place_lines, write_line, write_lines}
use Rattle.tomex_asm.specs.Assembled.{◌then◌}

-- the lines of the bytes from place i on, of which those from start on are before it
abbrev pub lines_on : ℕ → ℕ → List ℕ → List (List ℕ)
lines_on start i text = lines_from (take (i - start) (drop start text)) (drop i text)

here : (start i : ℕ) (text : List ℕ) → i < length text
    → lines_on start i text
    ≡ cond (nat_eq (get_or text i 0) 10) (take (i - start) (drop start text) ∷ lines_from [] (drop (i + 1) text))
    (lines_from (take (i - start) (drop start text) ++ (get_or text i 0 ∷ [])) (drop (i + 1) text))
here start i text h = ap (lines_from (take (i - start) (drop start text))) (drop_more text i 0 h)

pub newline_goes : (start i : ℕ) (text : List ℕ) → i < length text → get_or text i 0 ≡ 10
    → lines_on start i text ≡ take (i - start) (drop start text) ∷ lines_on (i + 1) (i + 1) text
newline_goes start i text h e =
    let t : nat_eq (get_or text i 0) 10 ≡ true = grind (arith, nat_tests) in
    let none : i + 1 - (i + 1) ≡ 0 = omega arith in
    here start i text h
    ∙ ap (λ (b : Bool). cond b (take (i - start) (drop start text) ∷ lines_from [] (drop (i + 1) text))
    (lines_from (take (i - start) (drop start text) ++ (get_or text i 0 ∷ [])) (drop (i + 1) text))) t
    ∙ ap (λ (n : ℕ). take (i - start) (drop start text) ∷ lines_from (take n (drop (i + 1) text)) (drop (i + 1) text))
    (sym none)

one_longer : (start i : ℕ) (text : List ℕ) → start ≤ i → i < length text
    → take (i + 1 - start) (drop start text) ≡ take (i - start) (drop start text) ++ (get_or text i 0 ∷ [])
one_longer start i text l h =
    let n : i + 1 - start ≡ (i - start) + 1 = omega arith in
    let size : length (drop start text) ≡ length text - start = length-drop {A = ℕ} start text in
    let room : i - start < length (drop start text) = omega arith in
    let place : start + (i - start) ≡ i = omega arith in
    ap (λ (m : ℕ). take m (drop start text)) n ∙ take_more (drop start text) (i - start) 0 room
    ∙ ap (λ (c : ℕ). take (i - start) (drop start text) ++ (c ∷ []))
    (get_or-drop start text (i - start) 0 ∙ ap (λ (m : ℕ). get_or text m 0) place)

pub other_goes : (start i : ℕ) (text : List ℕ) → start ≤ i → i < length text → (get_or text i 0 ≡ 10 → ⊥)
    → lines_on start i text ≡ lines_on start (i + 1) text
other_goes start i text l h e =
    let t : nat_eq (get_or text i 0) 10 ≡ false = grind (arith, nat_tests) in
    here start i text h
    ∙ ap (λ (b : Bool). cond b (take (i - start) (drop start text) ∷ lines_from [] (drop (i + 1) text))
    (lines_from (take (i - start) (drop start text) ++ (get_or text i 0 ∷ [])) (drop (i + 1) text))) t
    ∙ ap (λ (line : List ℕ). lines_from line (drop (i + 1) text)) (sym (one_longer start i text l h))

pub lines_end : (start i : ℕ) (text : List ℕ) → length text ≤ i
    → lines_on start i text ≡ take (i - start) (drop start text) ∷ []
lines_end start i text h = ap (lines_from (take (i - start) (drop start text))) (drop_all i text h)

-- the first pass, a line on
pub placed_more : (base n start i : ℕ) (text : List ℕ) (s t : State) (all : Result State Refusal) → i < length text
    → get_or text i 0 ≡ 10
    → in_line n (place_line base (take (i - start) (drop start text)) s) ≡ Ok t
    → place_lines base n (lines_on start i text) s ≡ all
    → place_lines base (n + 1) (lines_on (i + 1) (i + 1) text) t ≡ all
placed_more base n start i text s t all h e p before =
    sym (ap (λ ls. place_lines base n ls s) (newline_goes start i text h e)
    ∙ ap (λ r. r then place_lines base (n + 1) (lines_on (i + 1) (i + 1) text)) p) ∙ before

pub placed_less : (base n start i : ℕ) (text : List ℕ) (s : State) (all : Result State Refusal) (r : Refusal)
    → i < length text → get_or text i 0 ≡ 10
    → in_line n (place_line base (take (i - start) (drop start text)) s) ≡ Err r
    → place_lines base n (lines_on start i text) s ≡ all → all ≡ Err r
placed_less base n start i text s all r h e p before =
    sym before ∙ ap (λ ls. place_lines base n ls s) (newline_goes start i text h e)
    ∙ ap (λ x. x then place_lines base (n + 1) (lines_on (i + 1) (i + 1) text)) p

-- the second pass, a line on
pub written_more : (f : Frame) (whole : List Definition) (n start i : ℕ) (text : List ℕ) (s t : Both)
    (all : Result Both Refusal) → i < length text → get_or text i 0 ≡ 10
    → in_line n (write_line f whole (take (i - start) (drop start text)) s) ≡ Ok t
    → write_lines f whole n (lines_on start i text) s ≡ all
    → write_lines f whole (n + 1) (lines_on (i + 1) (i + 1) text) t ≡ all
written_more f whole n start i text s t all h e p before =
    sym (ap (λ ls. write_lines f whole n ls s) (newline_goes start i text h e)
    ∙ ap (λ r. r then write_lines f whole (n + 1) (lines_on (i + 1) (i + 1) text)) p) ∙ before
