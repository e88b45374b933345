-- Where a program's bytes go: the text begins at a base, the data at the next multiple of 16 after it.
use Rattle.std.specs.Prelude.{ℕ, ◌+◌, ◌-◌, ◌*◌, ◌/◌, ◌%◌, ◌^◌, ◌≤◌, ℤ, pos, negsuc, Bool, nat_le, nat_eq}
use Rattle.std.specs.Prelude.{◌&&◌, ◌||◌, Option, Some, None, if◌then◌else◌}
use Rattle.tomex_asm_text.specs.declared.statement.Alignment.{Alignment}
use Rattle.tomex_asm_text.specs.declared.statement.Alignment.TheVariants.{Power, Bytes}
use Rattle.tomex_asm_text.specs.declared.statement.Section.{Section}
use Rattle.tomex_asm_text.specs.declared.statement.Section.TheVariants.{Text, Data}
use Rattle.tomex_asm_numbers.specs.declared.number.Number.{Number}
use Rattle.tomex_asm_numbers.specs.Numbers.{address_in, low}
use Rattle.tomex_asm_places.specs.declared.position.Position.{Position}

-- the most bytes of a program
abbrev pub largest : ℕ
largest = 1048576

abbrev pub in_section : Section → Position → Position
in_section section p = record { section = section; text_size = p.text_size; data_size = p.data_size }

abbrev pub offset_in : Section → Position → ℕ
offset_in Text p = p.text_size
offset_in Data p = p.data_size

-- the address of the next byte
abbrev pub here : Position → Number
here p = address_in p.section (pos (offset_in p.section p))

-- the least multiple of m that is n or more
abbrev pub round_up : ℕ → ℕ → ℕ
round_up n m = (n + (m - 1)) / m * m

-- where the data begins, and where the memory ends
abbrev pub data_at : ℕ → Position → ℕ
data_at base p = round_up (base + p.text_size) 16

abbrev pub end_of : ℕ → Position → ℕ
end_of base p = round_up (data_at base p + p.data_size) 4

abbrev pub is_within : ℕ → Position → Bool
is_within base p = nat_le (end_of base p - base) largest && nat_le (end_of base p) (2 ^ 32)

-- after n bytes more in the section
abbrev pub longer : Section → ℕ → Position → Position
longer Text n p = record { section = p.section; text_size = p.text_size + n; data_size = p.data_size }
longer Data n p = record { section = p.section; text_size = p.text_size; data_size = p.data_size + n }

-- the same, if the program isn't too large
abbrev pub grown : ℕ → ℕ → Position → Option Position
grown base n p = if is_within base (longer p.section n p) then Some (longer p.section n p) else None

-- Alignment. The data begins at a multiple of 16, and no alignment is more
abbrev pub past_in : Section → ℕ → Position → ℕ
past_in Text base p = base + p.text_size
past_in Data base p = p.data_size

-- how many bytes there are to a multiple of m
abbrev pub padding : ℕ → Position → ℕ → ℕ
padding base p m = (m - past_in p.section base p % m) % m

abbrev pub one_of_five : ℕ → Bool
one_of_five n = nat_eq n 1 || nat_eq n 2 || nat_eq n 4 || nat_eq n 8 || nat_eq n 16

-- to a multiple of how many bytes
abbrev pub alignment_of : Alignment → ℤ → Option ℕ
alignment_of Power (pos n) = if nat_le n 4 then Some (2 ^ n) else None
alignment_of Bytes (pos n) = if one_of_five n then Some n else None
alignment_of alignment (negsuc n) = None

-- is it a number that `addi` can hold, from -2048 to 2047?
abbrev pub is_small : ℕ → Bool
is_small v = nat_le ((v + 2048) % 2 ^ 32) 4095

-- the bytes of `li`: one instruction if `addi` or `lui` is enough, else two
abbrev pub load_size : ℕ → ℕ
load_size v = if is_small v || nat_eq (low v) 0 then 4 else 8

-- both sections are small
abbrev pub AreFew : Position → Type 0
AreFew p = (p.text_size ≤ largest) × (p.data_size ≤ largest)
