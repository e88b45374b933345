-- Strings and tokens, from left to right.
use Rattle.std.proofs.Common.{◌≡◌, ℕ, zero, suc, ◌+◌, ◌-◌, ◌<◌, ◌≤◌, Bool, true, false, List, [], ◌∷◌, ◌++◌, length}
use Rattle.std.proofs.Common.{take, drop, get_or}
use Rattle.std.proofs.Common.{Result, Ok, Err, nat_eq, cond, refl, sym, ap, ◌∙◌, arith}
use Rattle.std.proofs.lemmas.List.{append-nil, drop_all, drop_more, take_rest}
use Rattle.std.proofs.lemmas.Bool.Decides.{nat_tests}
use Rattle.tomex_asm_tokens.specs.declared.cause.Fault.{Fault}
use Rattle.tomex_asm_tokens.specs.declared.cause.Cause.TheVariants.{UnclosedString, BadEscape}
use Rattle.tomex_asm_tokens.specs.declared.token.Token.{Token}
use Rattle.tomex_asm_tokens.specs.Characters.{is_blank}
use Rattle.tomex_asm_tokens.specs.Tokens.{◌>>=◌, refused, escape_length, string_end, token, tokens_from, tokens}

-- the rest of a string, of which bytes up to next belong to an escape
abbrev pub string_rest : ℕ → ℕ → ℕ → List ℕ → Result ℕ Fault
string_rest begin next i rest = string_end begin (next - i) (begin + 1 + i) (drop i rest)

pub string_skips : (begin next i : ℕ) (rest : List ℕ) → i < length rest → i < next
    → string_rest begin next i rest ≡ string_rest begin next (i + 1) rest
string_skips begin next i rest h s =
    let k : next - i ≡ suc (next - (i + 1)) = omega arith in
    let a : begin + 1 + i + 1 ≡ begin + 1 + (i + 1) = omega arith in
    ap (λ (n : ℕ). string_end begin n (begin + 1 + i) (drop i rest)) k
    ∙ ap (string_end begin (suc (next - (i + 1))) (begin + 1 + i)) (drop_more rest i 0 h)
    ∙ ap (λ (n : ℕ). string_end begin (next - (i + 1)) n (drop (i + 1) rest)) a

-- what the next byte says
pub string_here : (begin next i c n : ℕ) (rest : List ℕ) → i < length rest → next ≤ i → c ≡ get_or rest i 0
    → n ≡ escape_length (drop (i + 1) rest)
    → string_rest begin next i rest
    ≡ cond (nat_eq c 34) (Ok (begin + 1 + i + 1))
    (cond (nat_eq c 92) (cond (nat_eq n 0) (refused (begin + 1 + i) BadEscape)
    (string_end begin n (begin + 1 + (i + 1)) (drop (i + 1) rest)))
    (string_end begin 0 (begin + 1 + (i + 1)) (drop (i + 1) rest)))
string_here begin next i c n rest h le e f =
    let k : next - i ≡ 0 = omega arith in
    let a : begin + 1 + i + 1 ≡ begin + 1 + (i + 1) = omega arith in
    let d : drop i rest ≡ c ∷ drop (i + 1) rest =
    drop_more rest i 0 h ∙ ap (λ (x : ℕ). x ∷ drop (i + 1) rest) (sym e) in
    ap (λ (m : ℕ). string_end begin m (begin + 1 + i) (drop i rest)) k
    ∙ ap (string_end begin 0 (begin + 1 + i)) d
    ∙ ap (λ (m : ℕ). cond (nat_eq c 34) (Ok (begin + 1 + i + 1))
    (cond (nat_eq c 92) (cond (nat_eq m 0) (refused (begin + 1 + i) BadEscape)
    (string_end begin m (begin + 1 + i + 1) (drop (i + 1) rest)))
    (string_end begin 0 (begin + 1 + i + 1) (drop (i + 1) rest)))) (sym f)
    ∙ ap (λ (p : ℕ). cond (nat_eq c 34) (Ok (begin + 1 + i + 1))
    (cond (nat_eq c 92) (cond (nat_eq n 0) (refused (begin + 1 + i) BadEscape)
    (string_end begin n p (drop (i + 1) rest)))
    (string_end begin 0 p (drop (i + 1) rest)))) a

pub string_ends : (begin next i : ℕ) (rest : List ℕ) → length rest ≤ i
    → string_rest begin next i rest ≡ refused begin UnclosedString
string_ends begin next i rest h = ap (string_end begin (next - i) (begin + 1 + i)) (drop_all i rest h)
    ∙ nothing (next - i) where
      nothing : (k : ℕ) → string_end begin k (begin + 1 + i) [] ≡ refused begin UnclosedString
      nothing zero = refl
      nothing (suc k) = refl

-- what was read before, and what is still read
abbrev pub with_front : List Token → Result (List Token) Fault → Result (List Token) Fault
with_front front read = read >>= λ others. Ok (front ++ others)

abbrev pub tokens_rest : ℕ → ℕ → List ℕ → Result (List Token) Fault
tokens_rest next i line = tokens_from (next - i) i (drop i line)

pub tokens_skip : (next i : ℕ) (line : List ℕ) → i < length line → i < next
    → tokens_rest next i line ≡ tokens_rest next (i + 1) line
tokens_skip next i line h s =
    let k : next - i ≡ suc (next - (i + 1)) = omega arith in
    ap (λ (n : ℕ). tokens_from n i (drop i line)) k ∙ ap (tokens_from (suc (next - (i + 1))) i) (drop_more line i 0 h)

pub tokens_here : (next i c : ℕ) (line : List ℕ) → i < length line → next ≤ i → c ≡ get_or line i 0
    → tokens_rest next i line
    ≡ cond (is_blank c) (tokens_from 0 (i + 1) (drop (i + 1) line))
    (token i (drop i line)
    >>= λ first. (tokens_from (first.to - (i + 1)) (i + 1) (drop (i + 1) line) >>= λ others. Ok (first ∷ others)))
tokens_here next i c line h le e =
    let k : next - i ≡ 0 = omega arith in
    let d : drop i line ≡ c ∷ drop (i + 1) line =
    drop_more line i 0 h ∙ ap (λ (x : ℕ). x ∷ drop (i + 1) line) (sym e) in
    ap (λ (m : ℕ). tokens_from m i (drop i line)) k ∙ ap (tokens_from 0 i) d
    ∙ ap (λ (xs : List ℕ). cond (is_blank c) (tokens_from 0 (i + 1) (drop (i + 1) line))
    (token i xs
    >>= λ first. (tokens_from (first.to - (i + 1)) (i + 1) (drop (i + 1) line)
    >>= λ others. Ok (first ∷ others)))) (sym d)

pub string_escapes : (begin next i c n later : ℕ) (rest : List ℕ) → i < length rest → next ≤ i → c ≡ get_or rest i 0
    → (c ≡ 34 → ⊥) → c ≡ 92 → n ≡ escape_length (take (length rest - (i + 1)) (drop (i + 1) rest)) → (n ≡ 0 → ⊥)
    → later ≡ i + 1 + n → string_rest begin next i rest ≡ string_rest begin later (i + 1) rest
string_escapes begin next i c n later rest h le e not_end is_escape f some l =
    let k : later - (i + 1) ≡ n = omega arith in
    let s = string_here begin next i c n rest h le e (f ∙ ap escape_length (take_rest rest (i + 1))) in
    let one : nat_eq c 34 ≡ false = grind (arith, nat_tests) in
    let two : nat_eq c 92 ≡ true = grind (arith, nat_tests) in
    let three : nat_eq n 0 ≡ false = grind (arith, nat_tests) in
    s
    ∙ ap (λ (b : Bool). cond b (Ok (begin + 1 + i + 1))
    (cond (nat_eq c 92) (cond (nat_eq n 0) (refused (begin + 1 + i) BadEscape)
    (string_end begin n (begin + 1 + (i + 1)) (drop (i + 1) rest)))
    (string_end begin 0 (begin + 1 + (i + 1)) (drop (i + 1) rest)))) one
    ∙ ap (λ (b : Bool). cond b (cond (nat_eq n 0) (refused (begin + 1 + i) BadEscape)
    (string_end begin n (begin + 1 + (i + 1)) (drop (i + 1) rest)))
    (string_end begin 0 (begin + 1 + (i + 1)) (drop (i + 1) rest))) two
    ∙ ap (λ (b : Bool). cond b (refused (begin + 1 + i) BadEscape)
    (string_end begin n (begin + 1 + (i + 1)) (drop (i + 1) rest))) three
    ∙ ap (λ (m : ℕ). string_end begin m (begin + 1 + (i + 1)) (drop (i + 1) rest)) (sym k)

pub string_goes : (begin next i c later : ℕ) (rest : List ℕ) → i < length rest → next ≤ i → c ≡ get_or rest i 0
    → (c ≡ 34 → ⊥) → (c ≡ 92 → ⊥) → later ≡ next → string_rest begin next i rest ≡ string_rest begin later (i + 1) rest
string_goes begin next i c later rest h le e not_end no_escape l =
    let k : later - (i + 1) ≡ 0 = omega arith in
    let s = string_here begin next i c (escape_length (drop (i + 1) rest)) rest h le e refl in
    let one : nat_eq c 34 ≡ false = grind (arith, nat_tests) in
    let two : nat_eq c 92 ≡ false = grind (arith, nat_tests) in
    s
    ∙ ap (λ (b : Bool). cond b (Ok (begin + 1 + i + 1))
    (cond (nat_eq c 92) (cond (nat_eq (escape_length (drop (i + 1) rest)) 0) (refused (begin + 1 + i) BadEscape)
    (string_end begin (escape_length (drop (i + 1) rest)) (begin + 1 + (i + 1)) (drop (i + 1) rest)))
    (string_end begin 0 (begin + 1 + (i + 1)) (drop (i + 1) rest)))) one
    ∙ ap (λ (b : Bool). cond b (cond (nat_eq (escape_length (drop (i + 1) rest)) 0) (refused (begin + 1 + i) BadEscape)
    (string_end begin (escape_length (drop (i + 1) rest)) (begin + 1 + (i + 1)) (drop (i + 1) rest)))
    (string_end begin 0 (begin + 1 + (i + 1)) (drop (i + 1) rest))) two
    ∙ ap (λ (m : ℕ). string_end begin m (begin + 1 + (i + 1)) (drop (i + 1) rest)) (sym k)

pub tokens_blank : (next i c : ℕ) (line : List ℕ) → i < length line → next ≤ i → c ≡ get_or line i 0
    → is_blank c ≡ true → tokens_rest next i line ≡ tokens_rest next (i + 1) line
tokens_blank next i c line h le e b =
    let k : next - (i + 1) ≡ 0 = omega arith in
    tokens_here next i c line h le e
    ∙ ap (λ (x : Bool). cond x (tokens_from 0 (i + 1) (drop (i + 1) line))
    (token i (drop i line)
    >>= λ first. (tokens_from (first.to - (i + 1)) (i + 1) (drop (i + 1) line) >>= λ others. Ok (first ∷ others)))) b
    ∙ ap (λ (m : ℕ). tokens_from m (i + 1) (drop (i + 1) line)) (sym k)

pub tokens_refused : (front : List Token) (next i c : ℕ) (line : List ℕ) (f : Fault) → i < length line → next ≤ i
    → c ≡ get_or line i 0 → is_blank c ≡ false → Err f ≡ token i (take (length line - i) (drop i line))
    → with_front front (tokens_rest next i line) ≡ tokens_from 0 0 line → tokens line ≡ Err f
unfolding tokens
tokens_refused front next i c line f h le e b t all =
    let s : tokens_rest next i line ≡ Err f =
    tokens_here next i c line h le e
    ∙ ap (λ (x : Bool). cond x (tokens_from 0 (i + 1) (drop (i + 1) line))
    (token i (drop i line)
    >>= λ first. (tokens_from (first.to - (i + 1)) (i + 1) (drop (i + 1) line) >>= λ others. Ok (first ∷ others)))) b
    ∙ ap (λ (r : Result Token Fault). r
    >>= λ first. (tokens_from (first.to - (i + 1)) (i + 1) (drop (i + 1) line) >>= λ others. Ok (first ∷ others)))
    (ap (token i) (sym (take_rest line i)) ∙ sym t) in
    sym all ∙ ap (with_front front) s

pub tokens_end : (front : List Token) (next i : ℕ) (line : List ℕ) → length line ≤ i
    → with_front front (tokens_rest next i line) ≡ tokens_from 0 0 line → tokens line ≡ Ok front
unfolding tokens
tokens_end front next i line h all =
    sym all
    ∙ ap (λ (xs : List ℕ). with_front front (tokens_from (next - i) i xs)) (drop_all i line h)
    ∙ ap (with_front front) (nothing (next - i)) ∙ ap Ok (append-nil front) where
      nothing : (k : ℕ) → tokens_from k i [] ≡ Ok []
      nothing zero = refl
      nothing (suc k) = refl
