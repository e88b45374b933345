-- What instructions and data hold, once each label has its place. pc is how far the instruction is from where the text
-- begins, and gap how far the data is from there.
use Rattle.std.specs.Prelude.{ℕ, ◌+◌, ◌-◌, ◌*◌, ◌%◌, ◌^◌, List, ℤ, pos, negsuc, ◌+ℤ◌, ◌-ℤ◌, Bool, true, false}
use Rattle.std.specs.Prelude.{nat_eq, Option, Some, None, Result, Ok, if◌then◌else◌}
use Rattle.tomex_rvdec.specs.declared.op.Form.{Form}
use Rattle.tomex_rvdec.specs.declared.op.Form.TheVariants as forms
use Rattle.tomex_asm_tokens.specs.declared.cause.Cause.TheVariants.{Expected, OddOffset}
use Rattle.tomex_asm_tokens.specs.declared.cause.Fault.{Fault}
use Rattle.tomex_asm_tokens.specs.declared.cause.Thing.TheVariants.{Address}
use Rattle.tomex_asm_tokens.specs.declared.token.Token.{Token}
use Rattle.tomex_asm_tokens.specs.Tokens.{◌>>=◌, refused}
use Rattle.tomex_asm_text.specs.declared.statement.Section.{Section}
use Rattle.tomex_asm_text.specs.declared.statement.Section.TheVariants.{Text, Data}
use Rattle.tomex_asm_text.specs.Statement.{Immediate, Fixed, Plain, Low, High, Target, PcHigh, PcLow}
use Rattle.tomex_asm_numbers.specs.declared.number.Number.{Number}
use Rattle.tomex_asm_numbers.specs.Numbers.{within, wrapped, high, low, least_value, greatest_value}
use Rattle.tomex_asm_numbers.specs.Values.{Scope, at_place, constant, value_of, place_of_value}
use Rattle.tomex_asm_words.specs.declared.frame.Frame.{Frame}

-- a number as memory has it: an address is where its section begins, and how far it is from there
abbrev pub value_in : Frame → Option Section → ℤ → ℤ
value_in f None z = z
value_in f (Some Text) z = z +ℤ pos f.base
value_in f (Some Data) z = z +ℤ pos (f.base + f.gap)

-- the same modulo 2 ^ 32
abbrev pub word_in : Frame → Option Section → ℤ → ℕ
word_in f None z = wrapped z
word_in f (Some Text) z = (wrapped z + f.base) % 2 ^ 32
word_in f (Some Data) z = ((wrapped z + f.base) % 2 ^ 32 + f.gap) % 2 ^ 32

-- how far a number is from pc: an address from where pc is, and a constant is a distance
abbrev pub distance_in : Frame → ℕ → Option Section → ℤ → ℤ
distance_in f pc None z = z
distance_in f pc (Some Text) z = z -ℤ pos pc
distance_in f pc (Some Data) z = z -ℤ (pos pc -ℤ pos f.gap)

-- how far an address is from pc, modulo 2 ^ 32
abbrev pub far_in : Frame → ℕ → Number → ℕ
far_in f pc n = (word_in f n.section n.offset + (2 ^ 32 - (pc + f.base) % 2 ^ 32)) % 2 ^ 32

-- the least and the greatest of what a form holds
abbrev pub least_of : Form → ℤ
least_of forms.Shift = pos 0
least_of forms.Upper = pos 0
least_of forms.Branch = negsuc 4095
least_of forms.Jump = negsuc 1048575
least_of _ = negsuc 2047

abbrev pub greatest_of : Form → ℤ
greatest_of forms.Shift = pos 31
greatest_of forms.Upper = pos 1048575
greatest_of forms.Branch = pos 4094
greatest_of forms.Jump = pos 1048574
greatest_of _ = pos 2047

-- a number in its field: the upper 20 bits are at their place
abbrev pub is_upper : Form → Bool
is_upper forms.Upper = true
is_upper _ = false

abbrev pub in_field : Form → ℕ → ℕ
in_field form n = if is_upper form then n * 4096 % 2 ^ 32 else n

abbrev pub if_even : ℕ → ℤ → Result ℤ Fault
if_even begin z = if nat_eq (wrapped z % 2) 0 then Ok z else refused begin OddOffset

-- what is an address, and no constant
abbrev pub address : ℕ → Number → Option Section → Result Number Fault
address begin n (Some section) = Ok n
address begin n None = refused begin (Expected Address)

unfoldable pub address_of : Scope → List ℕ → List Token → Result Number Fault
address_of s line v = value_of s line v >>= λ n. address (place_of_value v) n n.section

unfoldable pub target : Frame → ℕ → Scope → List ℕ → Form → List Token → Result ℕ Fault
target f pc s line form v = do
  n ← value_of s line v
  z ← at_place (place_of_value v) (within (distance_in f pc n.section n.offset) (least_of form) (greatest_of form))
  even ← if_even (place_of_value v) z
  Ok (wrapped even)

-- an instruction's immediate, modulo 2 ^ 32
unfoldable pub immediate : Frame → ℕ → Scope → List ℕ → Form → Immediate → Result ℕ Fault
immediate f pc s line form (Fixed z) = Ok (wrapped z)
immediate f pc s line form (Plain v) = do
  z ← constant s line v (least_of form) (greatest_of form)
  Ok (in_field form (wrapped z))
immediate f pc s line form (Low v) = do
  n ← value_of s line v
  Ok (low (word_in f n.section n.offset))
immediate f pc s line form (High v) = do
  n ← value_of s line v
  Ok (high (word_in f n.section n.offset) * 4096)
immediate f pc s line form (Target v) = target f pc s line form v
immediate f pc s line form (PcHigh v) = do
  n ← address_of s line v
  Ok (high (far_in f pc n) * 4096)
immediate f pc s line form (PcLow v) = do
  n ← address_of s line v
  Ok (low (far_in f pc n))

-- a number of data, of `size` bytes
unfoldable pub datum : Frame → Scope → List ℕ → ℕ → List Token → Result ℤ Fault
datum f s line size v =
    if nat_eq size 1 then constant s line v (negsuc 127) (pos 255)
    else (if nat_eq size 2 then constant s line v (negsuc 32767) (pos 65535)
    else (value_of s line v >>= λ n.
    at_place (place_of_value v) (within (value_in f n.section n.offset) least_value greatest_value)))
