-- The bytes of a text, by what they are in a line.
use Rattle.std.specs.Prelude.{ℕ, Bool, nat_eq, nat_le, nat_lt, ◌&&◌, ◌||◌, not}
use Rattle.std.specs.Char.{is_ascii_digit, is_ascii_alphabetic, digit_value}

abbrev pub newline : ℕ
newline = 10

abbrev pub space : ℕ
space = 32

abbrev pub double_quote : ℕ
double_quote = 34

abbrev pub hash : ℕ
hash = 35

abbrev pub quote : ℕ
quote = 39

abbrev pub star : ℕ
star = 42

abbrev pub slash : ℕ
slash = 47

abbrev pub backslash : ℕ
backslash = 92

-- a space, a tab, a carriage return
abbrev pub is_blank : ℕ → Bool
is_blank c = nat_eq c space || nat_eq c 9 || nat_eq c 13

-- a letter, `_`, `.` or `$`
abbrev pub begins_word : ℕ → Bool
begins_word c = is_ascii_alphabetic c || nat_eq c 95 || nat_eq c 46 || nat_eq c 36

abbrev pub is_in_word : ℕ → Bool
is_in_word c = begins_word c || is_ascii_digit c

abbrev pub is_quote : ℕ → Bool
is_quote c = nat_eq c double_quote || nat_eq c quote

-- a character that stands for itself between single quotes
abbrev pub is_plain : ℕ → Bool
is_plain c = nat_le 32 c && nat_le c 126 && not (nat_eq c quote) && not (nat_eq c backslash)

abbrev pub is_octal : ℕ → Bool
is_octal c = nat_le 48 c && nat_le c 55

abbrev pub is_hexadecimal : ℕ → Bool
is_hexadecimal c = nat_lt (digit_value c) 16

abbrev pub is_binary : ℕ → Bool
is_binary c = nat_eq c 48 || nat_eq c 49
