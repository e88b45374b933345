-- The tokens of a line without comments: words, numbers, local labels, strings and marks, from left to right. A place
-- in a line is a number of bytes from its beginning. A refusal is at the first place where no token is possible.
use Rattle.std.specs.Prelude.{ℕ, zero, suc, ◌+◌, ◌-◌, ◌^◌, List, [], ◌∷◌, length, take, drop, slice_index}
use Rattle.std.specs.Prelude.{Option, Some, None, is_some, Result, Ok, Err, pos, negsuc, Bool, true, false, nat_eq}
use Rattle.std.specs.Prelude.{nat_lt, nat_le}
use Rattle.std.specs.Prelude.{not, ◌&&◌, ◌||◌, if◌then◌else◌}
use Rattle.std.specs.List.{prefix_len, take_while, list_all}
use Rattle.std.specs.Char.{is_ascii_digit}
use Rattle.std.specs.Str.Parse.{digits_value}
use Rattle.tomex_asm_tokens.specs.declared.cause.Cause.{Cause}
use Rattle.tomex_asm_tokens.specs.declared.cause.Cause.TheVariants.{UnclosedComment, UnclosedString, BadNumber}
use Rattle.tomex_asm_tokens.specs.declared.cause.Cause.TheVariants.{BadCharacter, BadEscape, OutOfRange}
use Rattle.tomex_asm_tokens.specs.declared.cause.Fault.{Fault}
use Rattle.tomex_asm_tokens.specs.declared.token.Mark.{Mark}
use Rattle.tomex_asm_tokens.specs.declared.token.Mark.TheVariants as marks
use Rattle.tomex_asm_tokens.specs.declared.token.Sort.{Sort}
use Rattle.tomex_asm_tokens.specs.declared.token.Sort.TheVariants as sorts
use Rattle.tomex_asm_tokens.specs.declared.token.Token.{Token}
use Rattle.tomex_asm_tokens.specs.Characters.{star, slash, quote, double_quote, backslash, is_blank, begins_word}
use Rattle.tomex_asm_tokens.specs.Characters.{is_in_word, is_plain, is_octal, is_hexadecimal, is_binary}

-- a step that may be refused, and the step after it
infixl 10 ◌>>=◌
abbrev pub ◌>>=◌ : {A B : Type 0} → Result A Fault → (A → Result B Fault) → Result B Fault
(Ok x) >>= f = f x
(Err e) >>= f = Err e

abbrev pub refused : {A : Type 0} → ℕ → Cause → Result A Fault
refused at cause = Err (record { at = at; cause = cause })

-- a token of size bytes
abbrev pub token_of : Sort → ℕ → ℕ → Token
token_of sort at size = record { sort = sort; from = at; to = at + size }

-- Numbers. 0, or digits without a leading 0
abbrev pub is_decimal : List ℕ → Bool
is_decimal [] = false
is_decimal (c ∷ rest) = list_all is_ascii_digit (c ∷ rest) && (nat_eq (length rest) 0 || not (nat_eq c 48))

-- a 0, this letter, and digits
abbrev pub is_based : ℕ → (ℕ → Bool) → List ℕ → Bool
is_based letter is_digit w =
    nat_lt 2 (length w) && nat_eq (slice_index w 0) 48 && nat_eq (slice_index w 1) letter
    && list_all is_digit (drop 2 w)

-- a decimal number, and this letter
abbrev pub is_local : ℕ → List ℕ → Bool
is_local letter w = nat_eq (slice_index w (length w - 1)) letter && is_decimal (take (length w - 1) w)

-- a value's range: what 32 bits hold, with a sign or without
abbrev pub out_of_range : Cause
out_of_range = OutOfRange (negsuc 2147483647) (pos 4294967295)

abbrev pub bounded : (ℕ → Sort) → ℕ → Result Sort Cause
bounded sort n = if nat_lt n (2 ^ 32) then Ok (sort n) else Err out_of_range

-- what a word that begins with a digit is
abbrev pub numeral : List ℕ → Result Sort Cause
numeral w =
    if is_decimal w then bounded sorts.Decimal (digits_value 10 w)
    else (if is_based 120 is_hexadecimal w then bounded sorts.Number (digits_value 16 (drop 2 w))
    else (if is_based 98 is_binary w then bounded sorts.Number (digits_value 2 (drop 2 w))
    else (if is_local 98 w then Ok sorts.Above
    else (if is_local 102 w then Ok sorts.Below
    else Err BadNumber))))

abbrev pub placed : ℕ → ℕ → Result Sort Cause → Result Token Fault
placed at size (Ok sort) = Ok (token_of sort at size)
placed at size (Err cause) = refused at cause

-- Characters. What `\` and this byte stand for, in these quotes
abbrev pub escaped : ℕ → ℕ → Option ℕ
escaped around c =
    if nat_eq c 110 then Some 10
    else (if nat_eq c 116 then Some 9
    else (if nat_eq c 114 then Some 13
    else (if nat_eq c 98 then Some 8
    else (if nat_eq c 102 then Some 12
    else (if nat_eq c backslash || nat_eq c around then Some c
    else None)))))

-- a character of size bytes, if the byte after it is a quote
abbrev pub closed : ℕ → ℕ → ℕ → List ℕ → Result Token Fault
closed at size n rest =
    if nat_eq (slice_index rest 0) quote then Ok (token_of (sorts.Number n) at size) else refused at BadCharacter

abbrev pub escape_at : ℕ → Option ℕ → List ℕ → Result Token Fault
escape_at at None rest = refused (at + 1) BadEscape
escape_at at (Some n) rest = closed at 4 n rest

-- the character whose first quote is at a place, by what follows this quote
abbrev pub character_at : ℕ → List ℕ → Result Token Fault
character_at at [] = refused at BadCharacter
character_at at (c ∷ []) = if nat_eq c backslash then refused (at + 1) BadEscape else refused at BadCharacter
character_at at (c ∷ d ∷ rest) =
    if nat_eq c backslash then escape_at at (escaped quote d) rest
    else (if is_plain c then closed at 3 c (d ∷ rest)
    else refused at BadCharacter)

-- Strings. How many bytes of an escape follow its `\`: none if it isn't one. One to three octal digits, up to 377
abbrev pub octal_length : List ℕ → ℕ
octal_length bytes =
    let size = prefix_len is_octal (take 3 bytes) in
    if nat_eq size 3 && nat_le 52 (slice_index bytes 0) then 0 else size

abbrev pub escape_length : List ℕ → ℕ
escape_length [] = 0
escape_length (c ∷ rest) = if is_some (escaped double_quote c) then 1 else octal_length (c ∷ rest)

-- where the string ends that began at a place; skip bytes belong to the escape before
abbrev pub string_end : ℕ → ℕ → ℕ → List ℕ → Result ℕ Fault
string_end begin skip at [] = refused begin UnclosedString
string_end begin (suc skip) at (c ∷ rest) = string_end begin skip (at + 1) rest
string_end begin zero at (c ∷ rest) =
    if nat_eq c double_quote then Ok (at + 1)
    else (if nat_eq c backslash
    then (if nat_eq (escape_length rest) 0 then refused at BadEscape
    else string_end begin (escape_length rest) (at + 1) rest)
    else string_end begin zero (at + 1) rest)

abbrev pub string_at : ℕ → List ℕ → Result Token Fault
string_at at rest = string_end at 0 (at + 1) rest >>= λ end. Ok (record { sort = sorts.Text; from = at; to = end })

-- Marks
abbrev pub mark_of : ℕ → Option Mark
mark_of c =
    if nat_eq c 44 then Some marks.Comma
    else (if nat_eq c 40 then Some marks.Open
    else (if nat_eq c 41 then Some marks.Close
    else (if nat_eq c 58 then Some marks.Colon
    else (if nat_eq c 43 then Some marks.Plus
    else (if nat_eq c 45 then Some marks.Minus
    else (if nat_eq c 42 then Some marks.Star
    else (if nat_eq c 37 then Some marks.Percent
    else (if nat_eq c 64 then Some marks.At
    else None))))))))

-- a byte that begins nothing. A `/*` that is left has no `*/`
abbrev pub mark_at : ℕ → Option Mark → ℕ → List ℕ → Result Token Fault
mark_at at (Some mark) c rest = Ok (token_of (sorts.Mark mark) at 1)
mark_at at None c rest =
    if nat_eq c slash && nat_eq (slice_index rest 0) star then refused at UnclosedComment else refused at BadCharacter

-- the token with which the bytes from a place on begin
unfoldable pub token : ℕ → List ℕ → Result Token Fault
token at [] = refused at BadCharacter
token at (c ∷ rest) =
    if begins_word c then Ok (token_of sorts.Word at (prefix_len is_in_word (c ∷ rest)))
    else (if is_ascii_digit c
    then placed at (prefix_len is_in_word (c ∷ rest)) (numeral (take_while is_in_word (c ∷ rest)))
    else (if nat_eq c quote then character_at at rest
    else (if nat_eq c double_quote then string_at at rest
    else mark_at at (mark_of c) c rest)))

-- the tokens of the bytes from a place on, of which skip belong to the token before
abbrev pub tokens_from : ℕ → ℕ → List ℕ → Result (List Token) Fault
tokens_from skip at [] = Ok []
tokens_from (suc skip) at (c ∷ rest) = tokens_from skip (at + 1) rest
tokens_from zero at (c ∷ rest) =
    if is_blank c then tokens_from zero (at + 1) rest
    else (token at (c ∷ rest) >>= λ first.
    (tokens_from (first.to - (at + 1)) (at + 1) rest >>= λ others. Ok (first ∷ others)))

unfoldable pub tokens : List ℕ → Result (List Token) Fault
tokens line = tokens_from 0 0 line

-- Tests of a token
-- the character of a mark
abbrev pub character_of : Mark → ℕ
character_of marks.Comma = 44
character_of marks.Open = 40
character_of marks.Close = 41
character_of marks.Colon = 58
character_of marks.Plus = 43
character_of marks.Minus = 45
character_of marks.Star = 42
character_of marks.Percent = 37
character_of marks.At = 64

abbrev pub sort_is_mark : Mark → Sort → Bool
sort_is_mark mark (sorts.Mark other) = nat_eq (character_of mark) (character_of other)
sort_is_mark mark _ = false

abbrev pub is_mark : Mark → Token → Bool
is_mark mark t = sort_is_mark mark t.sort

abbrev pub sort_is_word : Sort → Bool
sort_is_word sorts.Word = true
sort_is_word _ = false
