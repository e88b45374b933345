-- How many tokens of a line belong together, from left to right.
use Rattle.std.proofs.Common.{◌≡◌, ℕ, ◌+◌, ◌<◌, ◌≤◌, Bool, true, false, List, [], ◌∷◌, length, take, drop, get_or}
use Rattle.std.proofs.Common.{Option, None}
use Rattle.std.proofs.Common.{Result, Ok, Err, cond, ◌-◌, refl, sym, ap, ◌∙◌, subst, arith}
use Rattle.std.proofs.lemmas.List.{drop_more, drop-drop, take_rest}
use Rattle.tomex_asm_tokens.specs.declared.cause.Cause.{Cause}
use Rattle.tomex_asm_tokens.specs.declared.cause.Fault.{Fault}
use Rattle.tomex_asm_text.specs.declared.list.Element.{Element}
use Rattle.tomex_asm_tokens.specs.declared.token.Mark.TheVariants.{Colon, Comma}
use Rattle.tomex_asm_tokens.specs.declared.token.Token.{Token}
use Rattle.tomex_asm_text.specs.Directives.{unless, element_fault, elements_from}
use Rattle.tomex_asm_tokens.specs.Tokens.{◌>>=◌, is_mark}
use Rattle.tomex_asm_text.specs.Values.{one_more}
use Rattle.tomex_asm_text.specs.Lines.{label_fault, two_more, labels_from}

-- the tokens before, and those that are counted yet
abbrev pub counted : ℕ → Result ℕ Fault → Result ℕ Fault
counted before read = read >>= λ n. Ok (before + n)

pub counted_none : (read : Result ℕ Fault) → counted 0 read ≡ read
counted_none (Ok n) = let e : 0 + n ≡ n = omega arith in ap Ok e
counted_none (Err fault) = refl

pub counted_more : (n : ℕ) (read : Result ℕ Fault) → counted n (one_more read) ≡ counted (n + 1) read
counted_more n (Ok m) = let e : n + (1 + m) ≡ n + 1 + m = omega arith in ap Ok e
counted_more n (Err fault) = refl

pub counted_two : (n : ℕ) (read : Result ℕ Fault) → counted n (two_more read) ≡ counted (n + 2) read
counted_two n (Ok m) = let e : n + (2 + m) ≡ n + 2 + m = omega arith in ap Ok e
counted_two n (Err fault) = refl

-- Lists of names or strings
pub comma_goes : (element : Element) (line : List ℕ) (i : ℕ) (rest : List Token) (d : Token) → i < length rest
    → is_mark Comma (get_or rest i d) ≡ true
    → counted i (elements_from element line true (drop i rest))
    ≡ counted (i + 1) (elements_from element line false (drop (i + 1) rest))
comma_goes element line i rest d h m =
    ap (counted i)
    (ap (elements_from element line true) (drop_more rest i d h)
    ∙ ap (λ (b : Bool). cond b (one_more (elements_from element line false (drop (i + 1) rest))) (Ok 0)) m)
    ∙ counted_more i (elements_from element line false (drop (i + 1) rest))

pub element_goes : (element : Element) (line : List ℕ) (i : ℕ) (rest : List Token) (d : Token) → i < length rest
    → element_fault element line (get_or rest i d) ≡ None
    → counted i (elements_from element line false (drop i rest))
    ≡ counted (i + 1) (elements_from element line true (drop (i + 1) rest))
element_goes element line i rest d h f =
    ap (counted i)
    (ap (elements_from element line false) (drop_more rest i d h)
    ∙ ap (λ (o : Option Cause). unless o (get_or rest i d)
    (one_more (elements_from element line true (drop (i + 1) rest)))) f)
    ∙ counted_more i (elements_from element line true (drop (i + 1) rest))

-- Labels, of what is left of the line
labels_two : (line : List ℕ) (xs : List Token) (d e : Token) → 2 ≤ length xs → is_mark Colon (get_or xs 1 d) ≡ true
    → label_fault line (get_or xs 0 e) ≡ None → labels_from line xs ≡ two_more (labels_from line (drop 2 xs))
labels_two line [] d e h m f = absurd (omega arith)
labels_two line (t ∷ []) d e h m f = absurd (omega arith)
labels_two line (t ∷ u ∷ ts) d e h m f =
    ap (λ (b : Bool). cond b (unless (label_fault line t) t (two_more (labels_from line ts))) (Ok 0)) m
    ∙ ap (λ (o : Option Cause). unless o t (two_more (labels_from line ts))) f

labels_few : (line : List ℕ) (xs : List Token) → length xs < 2 → labels_from line xs ≡ Ok 0
labels_few line [] h = refl
labels_few line (t ∷ []) h = refl
labels_few line (t ∷ u ∷ ts) h = absurd (omega arith)

labels_stop : (line : List ℕ) (xs : List Token) (d : Token) → 2 ≤ length xs → is_mark Colon (get_or xs 1 d) ≡ false
    → labels_from line xs ≡ Ok 0
labels_stop line [] d h m = absurd (omega arith)
labels_stop line (t ∷ []) d h m = absurd (omega arith)
labels_stop line (t ∷ u ∷ ts) d h m =
    ap (λ (b : Bool). cond b (unless (label_fault line t) t (two_more (labels_from line ts))) (Ok 0)) m

none_more : (n : ℕ) → counted n (Ok 0) ≡ Ok n
none_more n = let e : n + 0 ≡ n = omega arith in ap Ok e

-- the tokens from a place on, as code has them
abbrev pub from_on : ℕ → List Token → List Token
from_on size tokens = take (length tokens - size) (drop size tokens)

pub labels_go : (line : List ℕ) (size : ℕ) (tokens : List Token) (d e : Token) → 2 ≤ length (from_on size tokens)
    → is_mark Colon (get_or (from_on size tokens) 1 d) ≡ true
    → label_fault line (get_or (from_on size tokens) 0 e) ≡ None
    → counted size (labels_from line (drop size tokens)) ≡ labels_from line tokens
    → counted (size + 2) (labels_from line (drop (size + 2) tokens)) ≡ labels_from line tokens
labels_go line size tokens d e h m f all =
    let t : from_on size tokens ≡ drop size tokens = take_rest tokens size in
    let step : labels_from line (drop size tokens) ≡ two_more (labels_from line (drop 2 (drop size tokens))) =
    labels_two line (drop size tokens) d e (subst (λ (xs : List Token). 2 ≤ length xs) t h)
    (subst (λ (xs : List Token). is_mark Colon (get_or xs 1 d) ≡ true) t m)
    (subst (λ (xs : List Token). label_fault line (get_or xs 0 e) ≡ None) t f) in
    sym (counted_two size (labels_from line (drop (size + 2) tokens)))
    ∙ ap (λ (xs : List Token). counted size (two_more (labels_from line xs))) (sym (drop-drop 2 size tokens))
    ∙ ap (counted size) (sym step) ∙ all

pub labels_end : (line : List ℕ) (size : ℕ) (tokens : List Token) → length (from_on size tokens) < 2
    → counted size (labels_from line (drop size tokens)) ≡ labels_from line tokens
    → Ok size ≡ labels_from line tokens
labels_end line size tokens h all =
    let t : from_on size tokens ≡ drop size tokens = take_rest tokens size in
    let step : labels_from line (drop size tokens) ≡ Ok 0 =
    labels_few line (drop size tokens) (subst (λ (xs : List Token). length xs < 2) t h) in
    sym (none_more size) ∙ ap (counted size) (sym step) ∙ all

pub labels_break : (line : List ℕ) (size : ℕ) (tokens : List Token) (d : Token) → 2 ≤ length (from_on size tokens)
    → is_mark Colon (get_or (from_on size tokens) 1 d) ≡ false
    → counted size (labels_from line (drop size tokens)) ≡ labels_from line tokens
    → Ok size ≡ labels_from line tokens
labels_break line size tokens d h m all =
    let t : from_on size tokens ≡ drop size tokens = take_rest tokens size in
    let step : labels_from line (drop size tokens) ≡ Ok 0 =
    labels_stop line (drop size tokens) d (subst (λ (xs : List Token). 2 ≤ length xs) t h)
    (subst (λ (xs : List Token). is_mark Colon (get_or xs 1 d) ≡ false) t m) in
    sym (none_more size) ∙ ap (counted size) (sym step) ∙ all
