-- Lists of values, from left to right.
use Rattle.std.proofs.Common.{◌≡◌, ℕ, ◌+◌, ◌-◌, ◌<◌, ◌≤◌, Bool, true, false, List, [], ◌∷◌, ◌++◌, length, take, drop}
use Rattle.std.proofs.Common.{get_or, cond, refl, sym, ap, ◌∙◌, arith, append_assoc, Result, Ok, Err}
use Rattle.std.proofs.lemmas.List.{drop_all, drop_more, take_more, length-drop, get_or-drop}
use Rattle.tomex_asm_tokens.specs.declared.cause.Fault.{Fault}
use Rattle.tomex_asm_tokens.specs.declared.token.Mark.TheVariants.{Comma}
use Rattle.tomex_asm_tokens.specs.declared.token.Token.{Token}
use Rattle.tomex_asm_tokens.specs.Tokens.{◌>>=◌, is_mark}
use Rattle.tomex_asm_numbers.specs.Values.{Scope}
use Rattle.tomex_asm_places.specs.declared.position.Position.{Position}
use Rattle.tomex_asm_words.specs.declared.frame.Frame.{Frame}
use Rattle.tomex_asm_words.specs.Words.{joined, value_at, values_from}

pub pushed : (old new : List ℕ) (value rest : Result (List ℕ) Fault) → joined old value ≡ Ok new
    → joined old (value >>= λ front. joined front rest) ≡ joined new rest
pushed old new (Ok front) (Ok rest) e = grind (arith, append_assoc)
pushed old new (Ok front) (Err fault) e = refl
pushed old new (Err fault) rest e = grind arith

pub failed : (old : List ℕ) (value rest : Result (List ℕ) Fault) (fault : Fault) → joined old value ≡ Err fault
    → joined old (value >>= λ front. joined front rest) ≡ Err fault
failed old (Ok front) rest fault e = grind arith
failed old (Err other) rest fault e = e

-- the values from place i on, of which the tokens from start on are before it
abbrev pub values_on : Frame → Position → Scope → List ℕ → ℕ → ℕ → ℕ → ℕ → List Token → Result (List ℕ) Fault
values_on f p scope line size k start i values =
    values_from f p scope line size k (take (i - start) (drop start values)) (drop i values)

pub comma_goes : (f : Frame) (p : Position) (scope : Scope) (line : List ℕ) (size k start i : ℕ) (values : List Token)
    (d : Token) → i < length values → is_mark Comma (get_or values i d) ≡ true
    → values_on f p scope line size k start i values
    ≡ (value_at f p scope line size k (take (i - start) (drop start values)) >>= λ front.
    joined front (values_on f p scope line size (k + size) (i + 1) (i + 1) values))
comma_goes f p scope line size k start i values d h m =
    let v = take (i - start) (drop start values) in
    let none : take (i + 1 - (i + 1)) (drop (i + 1) values) ≡ [] =
    ap (λ (n : ℕ). take n (drop (i + 1) values)) (zero_of (i + 1)) in
    ap (values_from f p scope line size k v) (drop_more values i d h)
    ∙ ap (λ (b : Bool). cond b (value_at f p scope line size k v >>= λ front.
    joined front (values_from f p scope line size (k + size) [] (drop (i + 1) values)))
    (values_from f p scope line size k (v ++ (get_or values i d ∷ [])) (drop (i + 1) values))) m
    ∙ ap (λ (w : List Token). value_at f p scope line size k v >>= λ front.
    joined front (values_from f p scope line size (k + size) w (drop (i + 1) values))) (sym none) where
      zero_of : (n : ℕ) → n - n ≡ 0
      zero_of n = omega arith

one_longer : (start i : ℕ) (values : List Token) (d : Token) → start ≤ i → i < length values
    → take (i + 1 - start) (drop start values) ≡ take (i - start) (drop start values) ++ (get_or values i d ∷ [])
one_longer start i values d l h =
    let n : i + 1 - start ≡ (i - start) + 1 = omega arith in
    let size : length (drop start values) ≡ length values - start = length-drop {A = Token} start values in
    let room : i - start < length (drop start values) = omega arith in
    let place : start + (i - start) ≡ i = omega arith in
    ap (λ (m : ℕ). take m (drop start values)) n ∙ take_more (drop start values) (i - start) d room
    ∙ ap (λ (t : Token). take (i - start) (drop start values) ++ (t ∷ []))
    (get_or-drop start values (i - start) d ∙ ap (λ (m : ℕ). get_or values m d) place)

pub other_goes : (f : Frame) (p : Position) (scope : Scope) (line : List ℕ) (size k start i : ℕ) (values : List Token)
    (d : Token) → start ≤ i → i < length values → is_mark Comma (get_or values i d) ≡ false
    → values_on f p scope line size k start i values ≡ values_on f p scope line size k start (i + 1) values
other_goes f p scope line size k start i values d l h m =
    let v = take (i - start) (drop start values) in
    ap (values_from f p scope line size k v) (drop_more values i d h)
    ∙ ap (λ (b : Bool). cond b (value_at f p scope line size k v >>= λ front.
    joined front (values_from f p scope line size (k + size) [] (drop (i + 1) values)))
    (values_from f p scope line size k (v ++ (get_or values i d ∷ [])) (drop (i + 1) values))) m
    ∙ ap (λ (w : List Token). values_from f p scope line size k w (drop (i + 1) values))
    (sym (one_longer start i values d l h))

pub values_end : (f : Frame) (p : Position) (scope : Scope) (line : List ℕ) (size k start i : ℕ) (values : List Token)
    → length values ≤ i
    → values_on f p scope line size k start i values
    ≡ value_at f p scope line size k (take (i - start) (drop start values))
values_end f p scope line size k start i values h =
    ap (values_from f p scope line size k (take (i - start) (drop start values))) (drop_all i values h)

pub comma_kept : (f : Frame) (p : Position) (scope : Scope) (line : List ℕ) (size k start i : ℕ) (values : List Token)
    (d : Token) (old new bytes : List ℕ) (after begin : ℕ) (all : Result (List ℕ) Fault)
    → i < length values → is_mark Comma (get_or values i d) ≡ true
    → joined old (value_at f p scope line size k (take (i - start) (drop start values))) ≡ Ok new
    → bytes ≡ new → begin ≡ i + 1 → after ≡ k + size
    → joined old (values_on f p scope line size k start i values) ≡ all
    → joined bytes (values_on f p scope line size after begin (i + 1) values) ≡ all
comma_kept f p scope line size k start i values d old new bytes after begin all h m e b s a before =
    ap (λ (x : List ℕ). joined x (values_on f p scope line size after begin (i + 1) values)) b
    ∙ ap (λ (x : ℕ). joined new (values_on f p scope line size after x (i + 1) values)) s
    ∙ ap (λ (x : ℕ). joined new (values_on f p scope line size x (i + 1) (i + 1) values)) a
    ∙ sym (pushed old new (value_at f p scope line size k (take (i - start) (drop start values)))
    (values_on f p scope line size (k + size) (i + 1) (i + 1) values) e)
    ∙ ap (joined old) (sym (comma_goes f p scope line size k start i values d h m)) ∙ before

pub other_kept : (f : Frame) (p : Position) (scope : Scope) (line : List ℕ) (size k start i : ℕ) (values : List Token)
    (d : Token) (old bytes : List ℕ) (after begin : ℕ) (all : Result (List ℕ) Fault) → start ≤ i
    → i < length values → is_mark Comma (get_or values i d) ≡ false
    → bytes ≡ old → begin ≡ start → after ≡ k
    → joined old (values_on f p scope line size k start i values) ≡ all
    → joined bytes (values_on f p scope line size after begin (i + 1) values) ≡ all
other_kept f p scope line size k start i values d old bytes after begin all l h m b s a before =
    ap (λ (x : List ℕ). joined x (values_on f p scope line size after begin (i + 1) values)) b
    ∙ ap (λ (x : ℕ). joined old (values_on f p scope line size after x (i + 1) values)) s
    ∙ ap (λ (x : ℕ). joined old (values_on f p scope line size x start (i + 1) values)) a
    ∙ ap (joined old) (sym (other_goes f p scope line size k start i values d l h m)) ∙ before
