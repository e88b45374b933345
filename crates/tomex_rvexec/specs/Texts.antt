-- Texts that reports share: hexadecimal numbers, and the names of a program's two ends.
use Rattle.std.specs.Prelude.{ℕ, zero, suc, ◌-◌, ◌/◌, ◌%◌, ◌^◌, false, List, [], ◌∷◌, ◌++◌, codes}
use Rattle.std.specs.Fmt.{digit_glyph, digits, padded_integral, format_spec}
use Rattle.tomex_rvexec.specs.declared.outcome.EndKind.{EndKind}
use Rattle.tomex_rvexec.specs.declared.outcome.EndKind.TheVariants.{Ecall, Ebreak}

abbrev pub name_of_end : EndKind → List ℕ
name_of_end Ecall = codes "ecall"
name_of_end Ebreak = codes "ebreak"

-- two hexadecimal digits in lower case, as `{:02x}` writes them
abbrev pub hex2 : ℕ → List ℕ
hex2 n = padded_integral (format_spec 32 0 4 2 (2 ^ 64 - 1)) false [] (digits 16 false n)

-- the last digits of a number in base 16, the highest first
abbrev pub last_digits : ℕ → ℕ → List ℕ
last_digits zero n = []
last_digits (suc k) n = last_digits k (n / 16) ++ digit_glyph false (n % 16) ∷ []
