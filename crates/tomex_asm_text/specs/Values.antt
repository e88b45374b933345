-- Parts of statements, read from left to right: marks, registers, names, values, and lists of them. What is lacking is
-- expected at the token where it should be, or right after the line's last one.
--
--     value    = product {("+" | "-") product}          product = atom {"*" atom}
--     atom     = ["-"] (number | local label | word but registers)
--     name     = word but "." and registers
use Rattle.std.specs.Prelude.{ℕ, ◌+◌, ◌-◌, List, [], ◌∷◌, take, drop, Option, Some, None, Result, Ok, Err}
use Rattle.std.specs.Prelude.{Bool, true, false, is_some, not, ◌&&◌, ◌||◌, if◌then◌else◌, codes}
use Rattle.std.specs.Str.{bytes_eq}
use Rattle.tomex_asm_tokens.specs.declared.cause.Cause.{Cause}
use Rattle.tomex_asm_tokens.specs.declared.cause.Cause.TheVariants.{Expected, RegisterName}
use Rattle.tomex_asm_tokens.specs.declared.cause.Fault.{Fault}
use Rattle.tomex_asm_tokens.specs.declared.cause.Thing.{Thing}
use Rattle.tomex_asm_tokens.specs.declared.cause.Thing.TheVariants as things
use Rattle.tomex_asm_tokens.specs.declared.token.Mark.{Mark}
use Rattle.tomex_asm_tokens.specs.declared.token.Mark.TheVariants as marks
use Rattle.tomex_asm_tokens.specs.declared.token.Sort.{Sort}
use Rattle.tomex_asm_tokens.specs.declared.token.Sort.TheVariants as sorts
use Rattle.tomex_asm_tokens.specs.declared.token.Token.{Token}
use Rattle.tomex_asm_text.specs.declared.value.Position.{Position}
use Rattle.tomex_asm_text.specs.declared.value.Position.TheVariants as positions
use Rattle.tomex_asm_text.specs.declared.value.Step.{Step}
use Rattle.tomex_asm_text.specs.declared.value.Step.TheVariants as steps
use Rattle.tomex_asm_tokens.specs.Characters.{is_blank}
use Rattle.tomex_asm_tokens.specs.Registers.{register_named}
use Rattle.tomex_asm_tokens.specs.Tokens.{◌>>=◌, refused, is_mark, sort_is_word}

-- the bytes of a token
abbrev pub text_of : List ℕ → Token → List ℕ
text_of line t = take (t.to - t.from) (drop t.from line)

-- the place right after the last byte that isn't blank
abbrev pub end_from : ℕ → ℕ → List ℕ → ℕ
end_from end at [] = end
end_from end at (c ∷ rest) = end_from (if is_blank c then end else at + 1) (at + 1) rest

-- where the rest of a line begins
abbrev pub place_of : List ℕ → List Token → ℕ
place_of line [] = end_from 0 0 line
place_of line (t ∷ ts) = t.from

-- the rest of the line lacks this
abbrev pub lack : List ℕ → List Token → Thing → Fault
lack line ts thing = record { at = place_of line ts; cause = Expected thing }

abbrev pub lacks : {A : Type 0} → List ℕ → List Token → Thing → Result A Fault
lacks line ts thing = Err (lack line ts thing)

-- the rest begins with this mark
abbrev pub begins_mark : Mark → List Token → Bool
begins_mark mark [] = false
begins_mark mark (t ∷ ts) = is_mark mark t

-- what follows this mark
unfoldable pub mark_at : Mark → Thing → List ℕ → List Token → Result (List Token) Fault
mark_at mark thing line ts = if begins_mark mark ts then Ok (drop 1 ts) else lacks line ts thing

-- Words, registers and names
abbrev pub register_of : List ℕ → Token → Option ℕ
register_of line t = if sort_is_word t.sort then register_named (text_of line t) else None

abbrev pub is_register : List ℕ → Token → Bool
is_register line t = is_some (register_of line t)

abbrev pub found_register : List ℕ → List Token → Option ℕ → Result (ℕ × List Token) Fault
found_register line ts None = lacks line ts things.Register
found_register line ts (Some r) = Ok (r, drop 1 ts)

-- the register with which the rest begins, and what follows it
unfoldable pub register_at : List ℕ → List Token → Result (ℕ × List Token) Fault
register_at line [] = lacks line [] things.Register
register_at line (t ∷ ts) = found_register line (t ∷ ts) (register_of line t)

-- why a token can't be the name of a label or a symbol: it isn't a word, it is `.`, or it is a register
abbrev pub name_fault : List ℕ → Token → Option Cause
name_fault line t =
    if not (sort_is_word t.sort) || bytes_eq (text_of line t) (codes ".") then Some (Expected things.Name)
    else (if is_register line t then Some RegisterName
    else None)

abbrev pub unless_fault : Token → List Token → Option Cause → Result (Token × List Token) Fault
unless_fault t ts None = Ok (t, ts)
unless_fault t ts (Some cause) = refused t.from cause

unfoldable pub name_at : List ℕ → List Token → Result (Token × List Token) Fault
name_at line [] = lacks line [] things.Name
name_at line (t ∷ ts) = unless_fault t ts (name_fault line t)

-- Values. A value is its tokens
abbrev pub sort_is_operand : Sort → Bool
sort_is_operand sorts.Word = true
sort_is_operand (sorts.Decimal n) = true
sort_is_operand (sorts.Number n) = true
sort_is_operand sorts.Above = true
sort_is_operand sorts.Below = true
sort_is_operand _ = false

abbrev pub is_operand : List ℕ → Token → Bool
is_operand line t = sort_is_operand t.sort && not (is_register line t)

abbrev pub is_joint : Bool → Token → Bool
is_joint is_list t =
    is_mark marks.Plus t || is_mark marks.Minus t || is_mark marks.Star t || is_list && is_mark marks.Comma t

-- one token more of a value, or of a list of values
abbrev pub step_of : Bool → List ℕ → Position → Token → Step
step_of is_list line positions.Atom t =
    if is_mark marks.Minus t then steps.Goes positions.Operand
    else (if is_operand line t then steps.Goes positions.After
    else steps.Lacks)
step_of is_list line positions.Operand t = if is_operand line t then steps.Goes positions.After else steps.Lacks
step_of is_list line positions.After t = if is_joint is_list t then steps.Goes positions.Atom else steps.Stops

-- how many of the tokens belong to the value
abbrev pub value_end : List ℕ → Position → Result ℕ Fault
value_end line positions.After = Ok 0
value_end line _ = lacks line [] things.Value

abbrev pub one_more : Result ℕ Fault → Result ℕ Fault
one_more read = read >>= λ n. Ok (1 + n)

abbrev pub after_step : Token → Step → (Position → Result ℕ Fault) → Result ℕ Fault
after_step t (steps.Goes position) read = one_more (read position)
after_step t steps.Stops read = Ok 0
after_step t steps.Lacks read = refused t.from (Expected things.Value)

abbrev pub value_from : Bool → List ℕ → Position → List Token → Result ℕ Fault
value_from is_list line position [] = value_end line position
value_from is_list line position (t ∷ ts) =
    after_step t (step_of is_list line position t) (λ after. value_from is_list line after ts)

abbrev pub split_at : List Token → ℕ → Result (List Token × List Token) Fault
split_at ts n = Ok (take n ts, drop n ts)

-- the value with which the rest begins, and what follows it
unfoldable pub value_at : List ℕ → List Token → Result (List Token × List Token) Fault
value_at line ts = value_from false line positions.Atom ts >>= split_at ts

-- the same for values with commas between them
unfoldable pub values_at : List ℕ → List Token → Result (List Token × List Token) Fault
values_at line ts = value_from true line positions.Atom ts >>= split_at ts
