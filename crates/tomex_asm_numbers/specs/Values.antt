-- The number that a value is: what its words stand for, added and multiplied from left to right, products first.
use Rattle.std.specs.Prelude.{ℕ, ◌-◌, List, [], ◌∷◌, length, take, slice_get, ℤ, pos, negsuc, Bool, true, false}
use Rattle.std.specs.Prelude.{Option, Some, None, Result, Ok, Err, if◌then◌else◌, codes, nat_eq}
use Rattle.std.specs.Str.{bytes_eq}
use Rattle.tomex_asm_tokens.specs.declared.cause.Cause.{Cause}
use Rattle.tomex_asm_tokens.specs.declared.cause.Cause.TheVariants.{Expected}
use Rattle.tomex_asm_tokens.specs.declared.cause.Fault.{Fault}
use Rattle.tomex_asm_tokens.specs.declared.cause.Thing.TheVariants.{Value, Constant}
use Rattle.tomex_asm_tokens.specs.declared.token.Mark.TheVariants.{Minus, Star}
use Rattle.tomex_asm_tokens.specs.declared.token.Sort.{Sort}
use Rattle.tomex_asm_tokens.specs.declared.token.Sort.TheVariants as sorts
use Rattle.tomex_asm_tokens.specs.declared.token.Token.{Token}
use Rattle.tomex_asm_tokens.specs.Tokens.{◌>>=◌, refused, is_mark}
use Rattle.tomex_asm_text.specs.Values.{text_of}
use Rattle.tomex_asm_text.specs.declared.statement.Section.{Section}
use Rattle.tomex_asm_numbers.specs.declared.number.Number.{Number}
use Rattle.tomex_asm_numbers.specs.declared.value.Next.{Next}
use Rattle.tomex_asm_numbers.specs.declared.value.Next.TheVariants.{Factor, Joint}
use Rattle.tomex_asm_numbers.specs.declared.value.Partial.{Partial}
use Rattle.tomex_asm_numbers.specs.Numbers.{constant_of, within, sum, difference, product}
use Rattle.tomex_asm_numbers.specs.Table.{Definition, numbers_of}

-- what the words of a line stand for: what is defined above, what is defined in all, what `.` is, and why a value is
-- refused if a word isn't defined
pub record Scope : Type 0 where
  pub above : List Definition
  pub whole : List Definition
  pub here : Number
  pub missing : Cause

-- `nb` is the last label n above, if there is one, and `nf` the next one
abbrev pub number_above : ℕ → List Number → Option Number
number_above count numbers = if nat_eq count 0 then None else slice_get numbers (count - 1)

abbrev pub last_above : Scope → List ℕ → Option Number
last_above s digits = number_above (length (numbers_of digits s.above)) (numbers_of digits s.whole)

abbrev pub next_below : Scope → List ℕ → Option Number
next_below s digits = slice_get (numbers_of digits s.whole) (length (numbers_of digits s.above))

abbrev pub named_number : Scope → List ℕ → Option Number
named_number s w = if bytes_eq w (codes ".") then Some s.here else slice_get (numbers_of w s.whole) 0

-- without the letter of a local label
abbrev pub digits_of : List ℕ → List ℕ
digits_of w = take (length w - 1) w

abbrev pub found : Scope → Sort → List ℕ → Option Number
found s (sorts.Decimal n) w = Some (constant_of (pos n))
found s (sorts.Number n) w = Some (constant_of (pos n))
found s sorts.Above w = last_above s (digits_of w)
found s sorts.Below w = next_below s (digits_of w)
found s _ w = named_number s w

abbrev pub or_missing : Scope → ℕ → Option Number → Result Number Fault
or_missing s at (Some n) = Ok n
or_missing s at None = refused at s.missing

-- what a factor is
abbrev pub operand : Scope → List ℕ → Token → Result Number Fault
operand s line t = or_missing s t.from (found s t.sort (text_of line t))

-- a refusal that is about the whole value is where it begins
abbrev pub at_place : {A : Type 0} → ℕ → Result A Cause → Result A Fault
at_place at (Ok x) = Ok x
at_place at (Err cause) = refused at cause

abbrev pub signed : Bool → Number → Result Number Cause
signed is_negative n = if is_negative then product (constant_of (negsuc 0)) n else Ok n

abbrev pub times : Option Number → Result Number Cause → Result Number Cause
times before (Err cause) = Err cause
times None (Ok n) = Ok n
times (Some before) (Ok n) = product before n

-- the sum with one product more
abbrev pub joined : Partial → Number → Result Number Cause
joined p last = if p.is_less then difference p.sum last else sum p.sum last

abbrev pub with_next : Partial → Next → Partial
with_next p next = record { sum = p.sum; is_less = p.is_less; next = next }

-- a value with one token more
abbrev pub after_token : Scope → List ℕ → ℕ → Partial → Next → Token → Result Partial Fault
after_token s line begin p (Factor before is_negative) t =
    if is_mark Minus t then Ok (with_next p (Factor before true))
    else (operand s line t >>= λ n.
    (at_place begin (times before (signed is_negative n)) >>= λ last. Ok (with_next p (Joint last))))
after_token s line begin p (Joint last) t =
    if is_mark Star t then Ok (with_next p (Factor (Some last) false))
    else (at_place begin (joined p last) >>= λ n.
    Ok (record { sum = n; is_less = is_mark Minus t; next = Factor None false }))

abbrev pub ended : ℕ → Partial → Next → Result Number Fault
ended begin p (Joint last) = at_place begin (joined p last)
ended begin p (Factor before is_negative) = refused begin (Expected Value)

abbrev pub value_from : Scope → List ℕ → ℕ → Partial → List Token → Result Number Fault
value_from s line begin p [] = ended begin p p.next
value_from s line begin p (t ∷ ts) =
    after_token s line begin p p.next t >>= λ more. value_from s line begin more ts

-- where a value begins
abbrev pub place_of_value : List Token → ℕ
place_of_value [] = 0
place_of_value (t ∷ ts) = t.from

abbrev pub nothing_yet : Partial
nothing_yet = record { sum = constant_of (pos 0); is_less = false; next = Factor None false }

-- the number that a value is
unfoldable pub value_of : Scope → List ℕ → List Token → Result Number Fault
value_of s line ts = value_from s line (place_of_value ts) nothing_yet ts

-- a constant, from least to greatest
abbrev pub constant_in : ℕ → ℤ → ℤ → Option Section → ℤ → Result ℤ Fault
constant_in begin least greatest None z = at_place begin (within z least greatest)
constant_in begin least greatest (Some section) z = refused begin (Expected Constant)

abbrev pub constant : Scope → List ℕ → List Token → ℤ → ℤ → Result ℤ Fault
constant s line ts least greatest =
    value_of s line ts >>= λ n. constant_in (place_of_value ts) least greatest n.section n.offset
