-- What a value can be: a constant, or the address of a byte of a section, which is how far the byte is from where the
-- section begins. Sums of two have one address at most; a difference of two addresses of a section is a constant.
-- A result is what 32 bits hold, with a sign or without.
use Rattle.std.specs.Prelude.{ℕ, ◌+◌, ◌-◌, ◌/◌, ◌%◌, ◌^◌, ℤ, pos, negsuc, ◌+ℤ◌, ◌-ℤ◌, ◌*ℤ◌, int_lt, Bool, true}
use Rattle.std.specs.Prelude.{false, ◌||◌, Option, Some, None, Result, Ok, Err, if◌then◌else◌}
use Rattle.tomex_asm_text.specs.declared.statement.Section.{Section}
use Rattle.tomex_asm_text.specs.declared.statement.Section.TheVariants as sections
use Rattle.tomex_asm_tokens.specs.declared.cause.Cause.{Cause}
use Rattle.tomex_asm_tokens.specs.declared.cause.Cause.TheVariants.{BadSum, OutOfRange}
use Rattle.tomex_asm_numbers.specs.declared.number.Number.{Number}

abbrev pub constant_of : ℤ → Number
constant_of z = record { section = None; offset = z }

abbrev pub address_in : Section → ℤ → Number
address_in section z = record { section = Some section; offset = z }

-- z, if it is from least to greatest
abbrev pub within : ℤ → ℤ → ℤ → Result ℤ Cause
within z least greatest =
    if int_lt z least || int_lt greatest z then Err (OutOfRange least greatest) else Ok z

abbrev pub least_value : ℤ
least_value = negsuc 2147483647

abbrev pub greatest_value : ℤ
greatest_value = pos 4294967295

abbrev pub in_section : Option Section → Result ℤ Cause → Result Number Cause
in_section section (Ok z) = Ok (record { section = section; offset = z })
in_section section (Err cause) = Err cause

-- a result, which has to be within a value's range
abbrev pub made : Result (Option Section) Cause → ℤ → Result Number Cause
made (Ok section) z = in_section section (within z least_value greatest_value)
made (Err cause) z = Err cause

abbrev pub is_same : Section → Section → Bool
is_same sections.Text sections.Text = true
is_same sections.Data sections.Data = true
is_same _ _ = false

-- where a sum, a difference and a product are
abbrev pub section_of_sum : Option Section → Option Section → Result (Option Section) Cause
section_of_sum first None = Ok first
section_of_sum None second = Ok second
section_of_sum (Some s) (Some t) = Err BadSum

abbrev pub section_of_difference : Option Section → Option Section → Result (Option Section) Cause
section_of_difference first None = Ok first
section_of_difference None (Some t) = Err BadSum
section_of_difference (Some s) (Some t) = if is_same s t then Ok None else Err BadSum

abbrev pub section_of_product : Option Section → Option Section → Result (Option Section) Cause
section_of_product None None = Ok None
section_of_product _ _ = Err BadSum

abbrev pub sum : Number → Number → Result Number Cause
sum x y = made (section_of_sum x.section y.section) (x.offset +ℤ y.offset)

abbrev pub difference : Number → Number → Result Number Cause
difference x y = made (section_of_difference x.section y.section) (x.offset -ℤ y.offset)

abbrev pub product : Number → Number → Result Number Cause
product x y = made (section_of_product x.section y.section) (x.offset *ℤ y.offset)

-- The two halves of a number in instructions. A number modulo 2 ^ 32
abbrev pub wrapped : ℤ → ℕ
wrapped (pos n) = n % 2 ^ 32
wrapped (negsuc n) = 2 ^ 32 - 1 - n % 2 ^ 32

-- the upper 20 bits, rounded so that the low 12 with their sign make the number: %hi
abbrev pub high : ℕ → ℕ
high v = (v + 2048) % 2 ^ 32 / 4096

-- the low 12 bits with their sign, modulo 2 ^ 32: %lo
abbrev pub low : ℕ → ℕ
low v = ((v + 2048) % 4096 + (2 ^ 32 - 2048)) % 2 ^ 32
