-- From the tokens of a statement to instructions whose values aren't known yet. In comments d, s and t are registers,
-- v is a value, i an immediate, l a target and a an address.
--
--     immediate = value | "%" "lo" "(" value ")"          memory = [immediate] "(" register ")"
use Rattle.std.specs.Prelude.{ℕ, ◌+◌, ◌*◌, List, [], ◌∷◌, drop, Option, Some, None, Result, Ok, ℤ, pos}
use Rattle.std.specs.Prelude.{Bool, true, false, ◌&&◌, ◌||◌, if◌then◌else◌, codes}
use Rattle.std.specs.Str.{bytes_eq}
use Rattle.tomex_rvdec.specs.declared.op.Op.{Op}
use Rattle.tomex_rvdec.specs.declared.op.Op.TheVariants as ops
use Rattle.tomex_rvdec.specs.declared.op.Form.{Form}
use Rattle.tomex_rvdec.specs.declared.op.Form.TheVariants as forms
use Rattle.tomex_rvdec.specs.Meaning.{form_of}
use Rattle.tomex_asm_tokens.specs.declared.cause.Fault.{Fault}
use Rattle.tomex_asm_tokens.specs.declared.cause.Thing.TheVariants as things
use Rattle.tomex_asm_text.specs.declared.mnemonic.Mnemonic.{Mnemonic}
use Rattle.tomex_asm_text.specs.declared.mnemonic.Mnemonic.TheVariants as mnemonics
use Rattle.tomex_asm_text.specs.declared.operands.Place as places
use Rattle.tomex_asm_text.specs.declared.operands.Place.TheVariants as found
use Rattle.tomex_asm_tokens.specs.declared.token.Mark.TheVariants as marks
use Rattle.tomex_asm_tokens.specs.declared.token.Token.{Token}
use Rattle.tomex_asm_tokens.specs.Registers.{named}
use Rattle.tomex_asm_text.specs.Statement.{Immediate, Fixed, Plain, Low, High, Target, PcHigh, PcLow, immediate_of}
use Rattle.tomex_asm_text.specs.Statement.{Template, Statement, One, Two, LoadNumber}
use Rattle.tomex_asm_tokens.specs.Tokens.{◌>>=◌, sort_is_word}
use Rattle.tomex_asm_text.specs.Values.{text_of, lacks, begins_mark, mark_at, is_register, register_at}
use Rattle.tomex_asm_text.specs.Values.{value_at}

-- what was read, and the rest of the line
abbrev pub Reading : Type 0 → Type 0
Reading A = Result (A × List Token) Fault

abbrev pub begins_register : List ℕ → List Token → Bool
begins_register line [] = false
begins_register line (t ∷ ts) = is_register line t

abbrev pub comma_at : List ℕ → List Token → Result (List Token) Fault
comma_at line ts = mark_at marks.Comma things.Comma line ts

-- , s
unfoldable pub next_register : List ℕ → List Token → Reading ℕ
next_register line ts = do
  rest ← comma_at line ts
  register_at line rest

-- , v
unfoldable pub next_value : List ℕ → List Token → Reading (List Token)
next_value line ts = do
  rest ← comma_at line ts
  value_at line rest

-- d, s
unfoldable pub two_registers : List ℕ → List Token → Reading (ℕ × ℕ)
two_registers line ts = do
  d ← register_at line ts
  s ← next_register line d.1
  Ok ((d.0, s.0), s.1)

-- d, s, t
unfoldable pub three_registers : List ℕ → List Token → Reading (ℕ × ℕ × ℕ)
three_registers line ts = do
  d ← register_at line ts
  s ← next_register line d.1
  t ← next_register line s.1
  Ok ((d.0, s.0, t.0), t.1)

-- the token is this word
abbrev pub is_text : List ℕ → List ℕ → Token → Bool
is_text w line t = sort_is_word t.sort && bytes_eq (text_of line t) w

-- the word after the first token is this one
abbrev pub second_is : List ℕ → List ℕ → List Token → Bool
second_is w line (t ∷ u ∷ ts) = is_text w line u
second_is w line _ = false

-- %w(v), where the rest begins with a `%`
unfoldable pub part_at : List ℕ → List ℕ → List Token → Reading (List Token)
part_at w line ts =
    if second_is w line ts
    then (do
      inside ← mark_at marks.Open things.Open line (drop 2 ts)
      v ← value_at line inside
      rest ← mark_at marks.Close things.Close line v.1
      Ok (v.0, rest))
    else lacks line ts things.Value

-- i
unfoldable pub immediate_at : List ℕ → List Token → Reading Immediate
immediate_at line ts =
    if begins_mark marks.Percent ts
    then (do
      v ← part_at (codes "lo") line ts
      Ok (Low v.0, v.1))
    else (do
      v ← value_at line ts
      Ok (Plain v.0, v.1))

-- (s)
unfoldable pub base_at : List ℕ → List Token → Reading ℕ
base_at line ts = do
  inside ← mark_at marks.Open things.Open line ts
  s ← register_at line inside
  rest ← mark_at marks.Close things.Close line s.1
  Ok (s.0, rest)

-- (s), or i(s)
unfoldable pub memory_at : List ℕ → List Token → Reading (Immediate × ℕ)
memory_at line ts =
    if begins_mark marks.Open ts
    then (do
      s ← base_at line ts
      Ok ((Fixed (pos 0), s.0), s.1))
    else (do
      i ← immediate_at line ts
      s ← base_at line i.1
      Ok ((i.0, s.0), s.1))

-- where a load reads or a store writes: a memory operand, or an address
pub data Place : Type 0 where
  Memory : (offset : Immediate) → (base : ℕ) → Place
  Address : (value : List Token) → Place

abbrev pub place_of : places.Place → Place
place_of (found.Memory i s) = Memory (immediate_of i) s
place_of (found.Address v) = Address v.now

-- a value belongs to a memory operand if a `(` comes after it
unfoldable pub after_value : List ℕ → List Token → List Token → Reading Place
after_value line v ts =
    if begins_mark marks.Open ts
    then (do
      s ← base_at line ts
      Ok (Memory (Plain v) s.0, s.1))
    else Ok (Address v, ts)

unfoldable pub place_at : List ℕ → List Token → Reading Place
place_at line ts =
    if begins_mark marks.Open ts || begins_mark marks.Percent ts
    then (do
      m ← memory_at line ts
      Ok (Memory m.0.0 m.0.1, m.1))
    else (do
      v ← value_at line ts
      after_value line v.0 v.1)

-- an instruction of these parts
abbrev pub made : Op → ℕ → ℕ → ℕ → Immediate → Template
made op rd rs1 rs2 immediate = record { op = op; rd = rd; rs1 = rs1; rs2 = rs2; immediate = immediate }

abbrev pub plain : Op → ℕ → ℕ → ℕ → Template
plain op rd rs1 rs2 = made op rd rs1 rs2 (Fixed (pos 0))

-- The forms. d,s,t
unfoldable pub register_form : Op → List ℕ → List Token → Reading Statement
register_form op line ts = do
  r ← three_registers line ts
  Ok (One (plain op r.0.0 r.0.1 r.0.2), r.1)

-- d,s,i
unfoldable pub immediate_form : Op → List ℕ → List Token → Reading Statement
immediate_form op line ts = do
  r ← two_registers line ts
  rest ← comma_at line r.1
  i ← immediate_at line rest
  Ok (One (made op r.0.0 r.0.1 0 i.0), i.1)

-- d,s,v
unfoldable pub shift_form : Op → List ℕ → List Token → Reading Statement
shift_form op line ts = do
  r ← two_registers line ts
  v ← next_value line r.1
  Ok (One (made op r.0.0 r.0.1 0 (Plain v.0)), v.1)

-- s,t,l
unfoldable pub branch_form : Op → List ℕ → List Token → Reading Statement
branch_form op line ts = do
  r ← two_registers line ts
  l ← next_value line r.1
  Ok (One (made op 0 r.0.0 r.0.1 (Target l.0)), l.1)

abbrev pub is_lui : Op → Bool
is_lui ops.Lui = true
is_lui _ = false

-- v, or for `lui` also %hi(v)
unfoldable pub upper_at : Op → List ℕ → List Token → Reading Immediate
upper_at op line ts =
    if is_lui op && begins_mark marks.Percent ts
    then (do
      v ← part_at (codes "hi") line ts
      Ok (High v.0, v.1))
    else (do
      v ← value_at line ts
      Ok (Plain v.0, v.1))

-- d, and that
unfoldable pub upper_form : Op → List ℕ → List Token → Reading Statement
upper_form op line ts = do
  d ← register_at line ts
  rest ← comma_at line d.1
  i ← upper_at op line rest
  Ok (One (made op d.0 0 0 i.0), i.1)

abbrev pub load_of : Op → ℕ → Place → Statement
load_of op d (Memory i s) = One (made op d s 0 i)
load_of op d (Address a) = Two (made ops.Auipc d 0 0 (PcHigh a)) (made op d d 0 (PcLow a))

-- d,m or d,a
unfoldable pub load_form : Op → List ℕ → List Token → Reading Statement
load_form op line ts = do
  d ← register_at line ts
  rest ← comma_at line d.1
  place ← place_at line rest
  Ok (load_of op d.0 place.0, place.1)

-- s,i or m
unfoldable pub jalr_base : List ℕ → List Token → Reading (Immediate × ℕ)
jalr_base line ts =
    if begins_register line ts
    then (do
      s ← register_at line ts
      rest ← comma_at line s.1
      i ← immediate_at line rest
      Ok ((i.0, s.0), i.1))
    else memory_at line ts

-- what follows the first register
unfoldable pub jalr_after : Op → ℕ → List ℕ → List Token → Reading Statement
jalr_after op r line [] = Ok (One (plain op 1 r 0), [])
jalr_after op r line (t ∷ ts) = do
  rest ← comma_at line (t ∷ ts)
  m ← jalr_base line rest
  Ok (One (made op r m.0.1 0 m.0.0), m.1)

-- s, or d,s,i, or d,m
unfoldable pub jalr_form : Op → List ℕ → List Token → Reading Statement
jalr_form op line ts = do
  r ← register_at line ts
  jalr_after op r.0 line r.1

-- what follows a store's place
abbrev pub store_to : Op → ℕ → List ℕ → List Token → Place → Reading Statement
store_to op t line ts (Memory i s) = Ok (One (made op 0 s t i), ts)
store_to op t line [] (Address a) = lacks line [] things.Open
store_to op t line (next ∷ ts) (Address a) =
    next_register line (next ∷ ts)
    >>= λ s. Ok (Two (made ops.Auipc s.0 0 0 (PcHigh a)) (made op 0 s.0 t (PcLow a)), s.1)

-- t,m or t,a,s
unfoldable pub store_form : Op → List ℕ → List Token → Reading Statement
store_form op line ts = do
  t ← register_at line ts
  rest ← comma_at line t.1
  place ← place_at line rest
  store_to op t.0 line place.1 place.0

-- d,l or l
unfoldable pub jump_form : Op → List ℕ → List Token → Reading Statement
jump_form op line ts =
    if begins_register line ts
    then (do
      d ← register_at line ts
      l ← next_value line d.1
      Ok (One (made op d.0 0 0 (Target l.0)), l.1))
    else (do
      l ← value_at line ts
      Ok (One (made op 1 0 0 (Target l.0)), l.1))

-- sets of input, output, reads and writes, as a fence orders them
abbrev pub fence_sets : List (List ℕ × ℕ)
fence_sets =
    (codes "i", 8) ∷ (codes "o", 4) ∷ (codes "r", 2) ∷ (codes "w", 1) ∷ (codes "io", 12) ∷ (codes "ir", 10)
    ∷ (codes "iw", 9) ∷ (codes "or", 6) ∷ (codes "ow", 5) ∷ (codes "rw", 3) ∷ (codes "ior", 14) ∷ (codes "iow", 13)
    ∷ (codes "irw", 11) ∷ (codes "orw", 7) ∷ (codes "iorw", 15) ∷ []

abbrev pub set_of : List ℕ → Token → Option ℕ
set_of line t = if sort_is_word t.sort then named fence_sets (text_of line t) else None

abbrev pub found_set : List ℕ → List Token → Option ℕ → Reading ℕ
found_set line ts None = lacks line ts things.FenceSet
found_set line ts (Some set) = Ok (set, drop 1 ts)

unfoldable pub set_at : List ℕ → List Token → Reading ℕ
set_at line [] = lacks line [] things.FenceSet
set_at line (t ∷ ts) = found_set line (t ∷ ts) (set_of line t)

-- nothing, for all sets, or two sets
unfoldable pub fence_form : Op → List ℕ → List Token → Reading Statement
fence_form op line [] = Ok (One (made op 0 0 0 (Fixed (pos 255))), [])
fence_form op line (t ∷ ts) = do
  before ← set_at line (t ∷ ts)
  rest ← comma_at line before.1
  after ← set_at line rest
  Ok (One (made op 0 0 0 (Fixed (pos (before.0 * 16 + after.0)))), after.1)

abbrev pub is_jalr : Op → Bool
is_jalr ops.Jalr = true
is_jalr _ = false

abbrev pub of_form : Form → Op → List ℕ → List Token → Reading Statement
of_form forms.Register op line ts = register_form op line ts
of_form forms.Immediate op line ts = immediate_form op line ts
of_form forms.Offset op line ts = if is_jalr op then jalr_form op line ts else load_form op line ts
of_form forms.Shift op line ts = shift_form op line ts
of_form forms.Store op line ts = store_form op line ts
of_form forms.Branch op line ts = branch_form op line ts
of_form forms.Upper op line ts = upper_form op line ts
of_form forms.Jump op line ts = jump_form op line ts
of_form forms.Fence op line ts = fence_form op line ts
of_form forms.Whole op line ts = Ok (One (plain op 0 0 0), ts)

-- The pseudoinstructions. d,s
unfoldable pub of_number : Op → ℤ → List ℕ → List Token → Reading Statement
of_number op n line ts = do
  r ← two_registers line ts
  Ok (One (made op r.0.0 r.0.1 0 (Fixed n)), r.1)

unfoldable pub of_zero : Op → Bool → List ℕ → List Token → Reading Statement
of_zero op zero_first line ts = do
  r ← two_registers line ts
  Ok (One (if zero_first then plain op r.0.0 0 r.0.1 else plain op r.0.0 r.0.1 0), r.1)

-- d,s,t
unfoldable pub swapped : Op → List ℕ → List Token → Reading Statement
swapped op line ts = do
  r ← three_registers line ts
  Ok (One (plain op r.0.0 r.0.2 r.0.1), r.1)

-- s,l
unfoldable pub branch_of_zero : Op → Bool → List ℕ → List Token → Reading Statement
branch_of_zero op zero_first line ts = do
  s ← register_at line ts
  l ← next_value line s.1
  Ok (One (if zero_first then made op 0 0 s.0 (Target l.0) else made op 0 s.0 0 (Target l.0)), l.1)

-- s,t,l
unfoldable pub branch_swapped : Op → List ℕ → List Token → Reading Statement
branch_swapped op line ts = do
  r ← two_registers line ts
  l ← next_value line r.1
  Ok (One (made op 0 r.0.1 r.0.0 (Target l.0)), l.1)

-- l
unfoldable pub jump : List ℕ → List Token → Reading Statement
jump line ts = do
  l ← value_at line ts
  Ok (One (made ops.Jal 0 0 0 (Target l.0)), l.1)

-- s
unfoldable pub jump_register : List ℕ → List Token → Reading Statement
jump_register line ts = do
  s ← register_at line ts
  Ok (One (plain ops.Jalr 0 s.0 0), s.1)

-- d,a
unfoldable pub load_address : List ℕ → List Token → Reading Statement
load_address line ts = do
  d ← register_at line ts
  a ← next_value line d.1
  Ok (Two (made ops.Auipc d.0 0 0 (PcHigh a.0)) (made ops.Addi d.0 d.0 0 (PcLow a.0)), a.1)

-- what follows an address: `@plt` says nothing
abbrev pub after_plt : List ℕ → List Token → List Token
after_plt line ts = if begins_mark marks.At ts && second_is (codes "plt") line ts then drop 2 ts else ts

-- a, by way of a register
unfoldable pub far : ℕ → ℕ → List ℕ → List Token → Reading Statement
far base link line ts = do
  a ← value_at line ts
  Ok (Two (made ops.Auipc base 0 0 (PcHigh a.0)) (made ops.Jalr link base 0 (PcLow a.0)), after_plt line a.1)

-- d,v
unfoldable pub load_number : List ℕ → List Token → Reading Statement
load_number line ts = do
  d ← register_at line ts
  v ← next_value line d.1
  Ok (LoadNumber d.0 v.0, v.1)

-- the operands of a mnemonic
abbrev pub instruction_at : Mnemonic → List ℕ → List Token → Reading Statement
instruction_at (mnemonics.Real op) line ts = of_form (form_of op) op line ts
instruction_at (mnemonics.OfNumber op n) line ts = of_number op n line ts
instruction_at (mnemonics.OfZero op zero_first) line ts = of_zero op zero_first line ts
instruction_at (mnemonics.Swapped op) line ts = swapped op line ts
instruction_at (mnemonics.BranchOfZero op zero_first) line ts = branch_of_zero op zero_first line ts
instruction_at (mnemonics.BranchSwapped op) line ts = branch_swapped op line ts
instruction_at mnemonics.NoOperation line ts = Ok (One (plain ops.Addi 0 0 0), ts)
instruction_at mnemonics.Return line ts = Ok (One (plain ops.Jalr 0 1 0), ts)
instruction_at mnemonics.Jump line ts = jump line ts
instruction_at mnemonics.JumpRegister line ts = jump_register line ts
instruction_at mnemonics.LoadAddress line ts = load_address line ts
instruction_at (mnemonics.Far base link) line ts = far base link line ts
instruction_at mnemonics.LoadNumber line ts = load_number line ts
