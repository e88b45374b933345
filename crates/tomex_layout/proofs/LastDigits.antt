-- The digits of a number, from the last one on.
use Rattle.std.proofs.Common.{◌≡◌, ◌∙◌, ℕ, ◌+◌, ◌-◌, ◌^◌, ◌<◌, ◌≤◌, ◌/◌, ◌%◌, List, [], ◌∷◌, ◌++◌, ap}
use Rattle.std.proofs.Common.{append_assoc, arith, drop, length, sym}
use Rattle.std.proofs.Math.ListN.{set}
use Rattle.std.proofs.lemmas.Fmt.{decimal_digit, decimal_nonempty, decimal_step, length-decimal-le}
use Rattle.std.proofs.lemmas.List.{append-nil, drop-set, drop_all, length-append, length-drop}
use Rattle.std.specs.Fmt.{decimal}

-- the digit of a rest is put before those that are there
digit_more : (rest from : ℕ) (digits whole : List ℕ) → 10 ≤ rest → rest < 2 ^ 64 → from < length digits
    → decimal rest ++ drop (from + 1) digits ≡ whole
    → decimal (rest / 10) ++ drop from (set digits from (48 + rest % 10)) ≡ whole
digit_more rest from digits whole long small within so_far =
    ap (λ (ds : List ℕ). decimal (rest / 10) ++ ds) (drop-set digits from (48 + rest % 10) within)
    ∙ (sym (append_assoc (decimal (rest / 10)) ((48 + rest % 10) ∷ []) (drop (from + 1) digits))
    ∙ (ap (λ (ds : List ℕ). ds ++ drop (from + 1) digits) (sym (decimal_step rest long small)) ∙ so_far))

-- at the place before the last one
pub digit_before : (rest from : ℕ) (digits whole : List ℕ) → 1 ≤ from → 10 ≤ rest → rest < 2 ^ 64
    → from < length digits → decimal rest ++ drop (from + 1) digits ≡ whole
    → decimal (rest / 10) ++ drop (from - 1 + 1) (set digits from (48 + rest % 10)) ≡ whole
digit_before rest from digits whole some long small within so_far =
    let same : from - 1 + 1 ≡ from = omega (arith, some) in
    ap (λ (n : ℕ). decimal (rest / 10) ++ drop n (set digits from (48 + rest % 10))) same
    ∙ digit_more rest from digits whole long small within so_far

-- none is there yet
pub no_digits : (text digits : List ℕ) (end : ℕ) → length digits ≤ end → text ++ drop end digits ≡ text
no_digits text digits end past = ap (λ (ds : List ℕ). text ++ ds) (drop_all end digits past) ∙ append-nil text

-- and the first digit
pub first_digit : (rest from : ℕ) (digits whole : List ℕ) → rest < 10 → from < length digits
    → decimal rest ++ drop (from + 1) digits ≡ whole → drop from (set digits from (48 + rest)) ≡ whole
first_digit rest from digits whole short within so_far =
    drop-set digits from (48 + rest) within
    ∙ (ap (λ (ds : List ℕ). ds ++ drop (from + 1) digits) (sym (decimal_digit rest short)) ∙ so_far)

-- there is room for the digits of a rest, since a number has at most 20
pub room : (number rest from : ℕ) (digits : List ℕ) → number < 2 ^ 64 → 10 ≤ rest → rest < 2 ^ 64
    → length digits ≡ 20 → from < 20 → decimal rest ++ drop (from + 1) digits ≡ decimal number → 1 ≤ from
room number rest from digits fits long small count within so_far =
    let most : length (decimal number) ≤ 20 = length-decimal-le 20 number (omega arith) (omega (arith, fits)) fits in
    let ends : length (decimal rest) ≡ length (decimal (rest / 10)) + 1 =
    ap length (decimal_step rest long small) ∙ length-append (decimal (rest / 10)) ((48 + rest % 10) ∷ []) in
    let some : 1 ≤ length (decimal (rest / 10)) = decimal_nonempty (rest / 10) (omega (arith, small)) in
    let all : length (decimal rest) + length (drop (from + 1) digits) ≡ length (decimal number) =
    sym (length-append (decimal rest) (drop (from + 1) digits)) ∙ ap length so_far in
    let after : length (drop (from + 1) digits) ≡ length digits - (from + 1) = length-drop (from + 1) digits in
    omega (arith, most, ends, some, all, after, count, within)
