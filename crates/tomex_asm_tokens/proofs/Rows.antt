-- The definitions, computed on texts and lines whose meaning is known.
use Rattle.std.proofs.Common.{◌≡◌, refl, [], ◌∷◌, ◌++◌, Ok, Err, codes}
use Rattle.tomex_asm_tokens.specs.declared.cause.Cause.TheVariants.{UnclosedComment, UnclosedString, BadNumber}
use Rattle.tomex_asm_tokens.specs.declared.cause.Cause.TheVariants.{BadCharacter, BadEscape}
use Rattle.tomex_asm_tokens.specs.declared.token.Mark.TheVariants.{Comma, Open, Close, Minus}
use Rattle.tomex_asm_tokens.specs.declared.token.Sort.TheVariants as sorts
use Rattle.tomex_asm_tokens.specs.Bare.{bare}
use Rattle.tomex_asm_tokens.specs.Tokens.{token_of, refused, out_of_range, numeral, token, tokens}

-- Texts without their comments: to the end of the line,
pub to_the_end : bare (codes "nop # a /* b" ++ (10 ∷ codes "j f// c")) ≡ codes "nop         " ++ (10 ∷ codes "j f    ")
unfolding bare
to_the_end = refl

-- over lines, and `/*/` isn't a whole one,
pub over_lines : bare (codes "a/*b" ++ (10 ∷ codes "c*/d /*/ e */")) ≡ codes "a   " ++ (10 ∷ codes "   d         ")
unfolding bare
over_lines = refl

-- none in quotes, and a `/*` without an end stays
pub none_in_quotes : bare (codes "'#' \"/*\" \"\\\"#\" '\\'' /* x") ≡ codes "'#' \"/*\" \"\\\"#\" '\\'' /* x"
unfolding bare
none_in_quotes = refl

-- Tokens: words and marks,
pub load : tokens (codes "lw t1, -4(sp)")
    ≡ Ok
    (token_of sorts.Word 0 2 ∷ token_of sorts.Word 3 2 ∷ token_of (sorts.Mark Comma) 5 1
    ∷ token_of (sorts.Mark Minus) 7 1
    ∷ token_of (sorts.Decimal 4) 8 1 ∷ token_of (sorts.Mark Open) 9 1 ∷ token_of sorts.Word 10 2
    ∷ token_of (sorts.Mark Close) 12 1 ∷ [])
unfolding tokens token
load = refl

-- numbers and local labels,
pub hexadecimal : numeral (codes "0x1F") ≡ Ok (sorts.Number 31)
hexadecimal = refl

pub binary : numeral (codes "0b101") ≡ Ok (sorts.Number 5)
binary = refl

pub local_label : numeral (codes "0b") ≡ Ok sorts.Above
local_label = refl

pub local_label_below : numeral (codes "12f") ≡ Ok sorts.Below
local_label_below = refl

pub leading_zero : numeral (codes "012") ≡ Err BadNumber
leading_zero = refl

pub no_digits : numeral (codes "0x") ≡ Err BadNumber
no_digits = refl

pub greatest : numeral (codes "4294967295") ≡ Ok (sorts.Decimal 4294967295)
greatest = refl

pub too_great : numeral (codes "4294967296") ≡ Err out_of_range
too_great = refl

-- characters and strings, with octal digits up to 377,
pub character : tokens (codes "'a' '\\n' '\\''")
    ≡ Ok (token_of (sorts.Number 97) 0 3 ∷ token_of (sorts.Number 10) 4 4 ∷ token_of (sorts.Number 39) 9 4 ∷ [])
unfolding tokens token
character = refl

pub string : tokens (codes "\"a\\\"\\3779\" b") ≡ Ok (token_of sorts.Text 0 10 ∷ token_of sorts.Word 11 1 ∷ [])
unfolding tokens token
string = refl

-- and what is refused, at its place
pub bad_character : tokens (codes "li a0, '''") ≡ refused 7 BadCharacter
unfolding tokens token
bad_character = refl

pub bad_escape : tokens (codes ".asciz \"a\\x41\"") ≡ refused 9 BadEscape
unfolding tokens token
bad_escape = refl

pub octal_too_great : tokens (codes "\"\\400\"") ≡ refused 1 BadEscape
unfolding tokens token
octal_too_great = refl

pub unclosed_string : tokens (codes ".asciz \"abc") ≡ refused 7 UnclosedString
unfolding tokens token
unclosed_string = refl

pub unclosed_comment : tokens (codes "nop /* x") ≡ refused 4 UnclosedComment
unfolding tokens token
unclosed_comment = refl
