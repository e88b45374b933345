-- A record of numbers: their digits with commas between them.
use Rattle.std.proofs.Common.{◌≡◌, ◌∙◌, ℕ, suc, ◌+◌, ◌^◌, ◌<◌, ◌≤◌, ◌%◌, List, [], ◌∷◌, ◌++◌, All, ap}
use Rattle.std.proofs.Common.{append_assoc, arith}
use Rattle.std.proofs.Common.{◌-◌, drop, false, get_or, length, map, refl, subst, sym, take}
use Rattle.std.specs.List.{flat_map}
use Rattle.std.specs.Fmt.{decimal}
use Rattle.std.proofs.lemmas.Bool.Decides.{nat_tests}
use Rattle.std.proofs.lemmas.Fmt.{decimal_by_steps, decimal_nonempty}
use Rattle.std.proofs.lemmas.List.{get_or_default, take_all}
use Rattle.std.proofs.lemmas.List.Elements.{All-head, All-push, All-tail}
use Rattle.std.proofs.lemmas.List.Folds.{list_any_none}
use Rattle.csv.specs.Quoting.{needs_byte}
use Rattle.csv.specs.Writing.{default_writer, field_text, fields_text, is_blank}
use Rattle.tomex_layout.specs.Csv.{record_text}
use Rattle.tomex_layout.specs.PlainRecords.{after_comma}

-- no byte calls for quotes
abbrev pub ArePlain : List ℕ → Type 0
ArePlain bytes = All (λ b. needs_byte default_writer b ≡ false) bytes

digit_is_plain : (b : ℕ) → 48 ≤ b → b ≤ 57 → needs_byte default_writer b ≡ false
digit_is_plain b low high = grind (arith, nat_tests)

one_is_plain : (b : ℕ) → 48 ≤ b → b ≤ 57 → ArePlain (b ∷ [])
one_is_plain b low high =
    All-push (λ x. needs_byte default_writer x ≡ false) [] b (λ k d none. absurd (omega (arith, none)))
    (digit_is_plain b low high)

pub digits_are_plain : (n : ℕ) → n < 2 ^ 64 → ArePlain (decimal n)
digits_are_plain n small =
    decimal_by_steps (λ m ds. ArePlain ds) (λ m few. one_is_plain (48 + m) (omega arith) (omega (arith, few)))
    (λ m ds many so_far. All-push (λ x. needs_byte default_writer x ≡ false) ds (48 + m % 10) so_far
    (digit_is_plain (48 + m % 10) (omega arith) (omega arith))) n small

pub decimal_is_plain : (n : ℕ) → n < 2 ^ 64 → field_text default_writer (decimal n) ≡ decimal n
decimal_is_plain n small =
    rw (list_any_none (needs_byte default_writer) (decimal n) (digits_are_plain n small)) refl

others : (ns : List ℕ) → All (λ n. n < 2 ^ 64) ns
    → fields_text default_writer (map decimal ns) ≡ flat_map after_comma ns
unfolding fields_text
others [] small = refl
others (n ∷ ns) small =
    rw (
      decimal_is_plain n (All-head (λ m. m < 2 ^ 64) n ns small),
      others ns (All-tail (λ m. m < 2 ^ 64) n ns small),
    )
    refl

not_blank : (n : ℕ) (ns : List ℕ) → n < 2 ^ 64 → is_blank default_writer (map decimal (n ∷ ns)) ≡ false
unfolding is_blank
not_blank n [] small =
    let some = decimal_nonempty n small in rw (decimal_is_plain n small) (grind (arith, nat_tests))
not_blank n (m ∷ ns) small = refl

-- a record of numbers, the first one and the others
pub record_of_numbers : (n : ℕ) (ns : List ℕ) → n < 2 ^ 64 → All (λ m. m < 2 ^ 64) ns
    → record_text (map decimal (n ∷ ns)) ≡ decimal n ++ (flat_map after_comma ns ++ 10 ∷ [])
record_of_numbers n ns small others_small =
    rw (decimal_is_plain n small, others ns others_small, not_blank n ns small)
    (append_assoc (decimal n) (flat_map after_comma ns) (10 ∷ []))

-- of a list that isn't empty, whose items fit
pub record_of_list : (ns : List ℕ) → 0 < length ns → ((i : ℕ) → get_or ns i 0 < 2 ^ 64)
    → record_text (map decimal ns)
    ≡ decimal (get_or ns 0 0) ++ (flat_map after_comma (take (length ns - 1) (drop 1 ns)) ++ 10 ∷ [])
record_of_list [] some fits = absurd (omega (arith, some))
record_of_list (n ∷ ns) some fits =
    record_of_numbers n ns (fits 0)
    (λ k d low. subst (λ (m : ℕ). m < 2 ^ 64) (get_or_default ns k 0 d low) (fits (suc k)))
    ∙ ap (λ (ms : List ℕ). decimal n ++ (flat_map after_comma ms ++ 10 ∷ []))
    (sym (take_all (suc (length ns) - 1) ns (omega arith)))

-- a text that grew by the first number, the others and a line feed
pub record_added : (before first others after : List ℕ) (ns : List ℕ) → 0 < length ns
    → ((i : ℕ) → get_or ns i 0 < 2 ^ 64) → first ≡ before ++ decimal (get_or ns 0 0)
    → others ≡ first ++ flat_map after_comma (take (length ns - 1) (drop 1 ns)) → after ≡ others ++ 10 ∷ []
    → after ≡ before ++ record_text (map decimal ns)
record_added before first others after ns some fits a b c =
    let one = decimal (get_or ns 0 0) in
    let rest = flat_map after_comma (take (length ns - 1) (drop 1 ns)) in
    c ∙ (ap (λ (t : List ℕ). t ++ 10 ∷ []) (b ∙ ap (λ (t : List ℕ). t ++ rest) a)
    ∙ (append_assoc (before ++ one) rest (10 ∷ []) ∙ (append_assoc before one (rest ++ 10 ∷ [])
    ∙ ap (λ (t : List ℕ). before ++ t) (sym (record_of_list ns some fits)))))
