-- Numbers as bytes, one after another.
use Rattle.std.proofs.Common.{◌≡◌, ℕ, ◌+◌, ◌<◌, List, [], ◌∷◌, ◌++◌, length, take, get_or, refl, sym, ◌∙◌, ap}
use Rattle.std.proofs.Common.{append_assoc}
use Rattle.std.proofs.lemmas.List.{take_more}
use Rattle.tomex_elf.specs.File.{half, halves, word, words}

halves-append : (xs ys : List ℕ) → halves (xs ++ ys) ≡ halves xs ++ halves ys
halves-append [] ys = refl
halves-append (x ∷ xs) ys =
    ap (λ r. half x ++ r) (halves-append xs ys) ∙ sym (append_assoc (half x) (halves xs) (halves ys))

words-append : (xs ys : List ℕ) → words (xs ++ ys) ≡ words xs ++ words ys
words-append [] ys = refl
words-append (x ∷ xs) ys =
    ap (λ r. word x ++ r) (words-append xs ys) ∙ sym (append_assoc (word x) (words xs) (words ys))

pub halves_more : (xs : List ℕ) (i : ℕ) → i < length xs
    → halves (take (i + 1) xs) ≡ halves (take i xs) ++ half (get_or xs i 0)
halves_more xs i h =
    ap halves (take_more xs i 0 h) ∙ halves-append (take i xs) (get_or xs i 0 ∷ [])

pub words_more : (xs : List ℕ) (i : ℕ) → i < length xs
    → words (take (i + 1) xs) ≡ words (take i xs) ++ word (get_or xs i 0)
words_more xs i h =
    ap words (take_more xs i 0 h) ∙ words-append (take i xs) (get_or xs i 0 ∷ [])

-- one more number is appended
pub halves_on : (new file old bytes xs : List ℕ) (i : ℕ) → new ≡ file ++ bytes → bytes ≡ half (get_or xs i 0)
    → i < length xs → file ≡ old ++ halves (take i xs) → new ≡ old ++ halves (take (i + 1) xs)
halves_on new file old bytes xs i e f h before =
    e ∙ (ap (λ ys. ys ++ bytes) before ∙ (append_assoc old (halves (take i xs)) bytes
    ∙ ap (λ ys. old ++ ys) (ap (λ ys. halves (take i xs) ++ ys) f ∙ sym (halves_more xs i h))))

pub words_on : (new file old bytes xs : List ℕ) (i : ℕ) → new ≡ file ++ bytes → bytes ≡ word (get_or xs i 0)
    → i < length xs → file ≡ old ++ words (take i xs) → new ≡ old ++ words (take (i + 1) xs)
words_on new file old bytes xs i e f h before =
    e ∙ (ap (λ ys. ys ++ bytes) before ∙ (append_assoc old (words (take i xs)) bytes
    ∙ ap (λ ys. old ++ ys) (ap (λ ys. words (take i xs) ++ ys) f ∙ sym (words_more xs i h))))

-- four appends, one after another
pub four_joined : (old f g h new a b c d : List ℕ) → f ≡ old ++ a → g ≡ f ++ b → h ≡ g ++ c → new ≡ h ++ d
    → new ≡ old ++ (a ++ (b ++ (c ++ d)))
four_joined old f g h new a b c d e1 e2 e3 e4 =
    let e : new ≡ ((((old ++ a) ++ b) ++ c) ++ d) = cc in
    e ∙ simp append_assoc
