-- The bytes for which a string stands, by what is between its quotes.
use Rattle.std.specs.Prelude.{ℕ, zero, suc, ◌%◌, List, [], ◌∷◌, take, Option, Some, None, nat_eq, if◌then◌else◌}
use Rattle.std.specs.Str.Parse.{digits_value}
use Rattle.tomex_asm_tokens.specs.Characters.{backslash, double_quote}
use Rattle.tomex_asm_tokens.specs.Tokens.{escaped, octal_length, escape_length}

-- what a byte and those after it stand for after a `\`: a character, or an octal number, which is at most 377
abbrev pub or_octal : Option ℕ → List ℕ → ℕ
or_octal (Some c) bytes = c
or_octal None bytes = digits_value 8 (take (octal_length bytes) bytes) % 256

abbrev pub escape_value : List ℕ → ℕ
escape_value [] = 0
escape_value (c ∷ rest) = or_octal (escaped double_quote c) (c ∷ rest)

-- what the bytes stand for, of which skip belong to the escape before
abbrev pub bytes_from : ℕ → List ℕ → List ℕ
bytes_from skip [] = []
bytes_from (suc skip) (c ∷ rest) = bytes_from skip rest
bytes_from zero (c ∷ rest) =
    if nat_eq c backslash then escape_value rest ∷ bytes_from (escape_length rest) rest else c ∷ bytes_from zero rest

unfoldable pub string_bytes : List ℕ → List ℕ
string_bytes inner = bytes_from 0 inner
