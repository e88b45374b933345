-- Worked rows.
use Rattle.std.proofs.Common.{ℕ, ◌≡◌, ◌-◌, ◌++◌, refl, List, [], ◌∷◌, Bool, true, false, Option, Some, None, length}
use Rattle.std.proofs.Common.{Result, Ok, Err, lit<}
use Rattle.std.specs.Prelude.{replicate}
use Rattle.std.specs.List.{take_while}
use Rattle.tomex_cut.specs.declared.error.CutError.{CutError}
use Rattle.tomex_cut.specs.declared.error.CutError.TheVariants as errors
use Rattle.tomex_cut.specs.After.{after}
use Rattle.tomex_elf.specs.File.{file_header, no_sections, program_header, words}
use Rattle.tomex_cut.specs.Part.{Part, is_overwritten, part_from, part_of, uses}
use Rattle.tomex_cut.specs.Prologue.{branch, ebreak, jump, low_half, lower, upper}
use Rattle.tomex_cut.specs.Room.{is_free}
use Rattle.tomex_cut.specs.SymbolFile.{entry_of, is_local, section_headers}
use Rattle.tomex_image.specs.Image.{Loaded}
use Rattle.tomex_rvdec.specs.declared.op.Op.TheVariants.{Lw}
use Rattle.tomex_rvdec.specs.Meaning.{Means, selection, with_operands}
use Rattle.tomex_rvexec.specs.declared.outcome.FaultKind.TheVariants as faults
use Rattle.tomex_rvexec.specs.declared.step.Step.{Step}
use Rattle.tomex_rvexec.specs.Machine.{State, step_of}
use Rattle.tomex_rvexec.specs.Run.{start_of}
use Rattle.tomex_symbols.specs.declared.symbol.Binding.{Binding}
use Rattle.tomex_symbols.specs.declared.symbol.Binding.TheVariants.{Global, Other, Weak}
use Rattle.tomex_symbols.specs.declared.symbol.Kind.{Kind}
use Rattle.tomex_symbols.specs.declared.symbol.Kind.TheVariants.{Function, Label}
use Rattle.tomex_symbols.specs.declared.symbol.Symbol.{Symbol}

abbrev symbol : ℕ → ℕ → ℕ → Kind → Binding → ℕ → Symbol
symbol number address size kind binding name = record {
  number = number;
  address = address;
  size = size;
  kind = kind;
  binding = binding;
  name = name;
  names_end = 127;
}

-- a program in a window of 64 bytes from 0
abbrev pub image_of : List ℕ → Loaded
image_of ws = record {
  window = record { base = 0; size = 64 };
  memory = words ws ++ replicate (64 - length (words ws)) 0;
  entry = 0;
}

-- `addi x5,x0,2`, then twice `mul x6,x6,x5; addi x5,x5,-1; bne x5,x0,-8`, and `ebreak`: eight steps
abbrev pub rounds : Loaded
rounds = image_of (0x00200293 ∷ 0x02530333 ∷ 0xfff28293 ∷ 0xfe029ce3 ∷ 0x00100073 ∷ [])

-- `addi x1,x0,19; sw x1,8(x0); addi x2,x0,1; lw x3,64(x0)`: the store writes the third word, and the load faults
abbrev pub writer : Loaded
writer = image_of (0x01300093 ∷ 0x00102423 ∷ 0x00100113 ∷ 0x04002183 ∷ [])

-- how many steps a part has, where it ends, and whether its code was overwritten
pub record Row : Type 0 where
  pub steps : ℕ
  pub end : Option ℕ
  pub overwritten : Bool

abbrev pub row : ℕ → Option ℕ → Bool → Row
row steps end overwritten = record { steps = steps; end = end; overwritten = overwritten }

abbrev pub row_of : Result Part CutError → Result Row CutError
row_of (Ok p) = Ok (row (length p.steps) p.end (is_overwritten p))
row_of (Err e) = Err e

-- the part from a step on, of at least a number of steps; twelve ends are looked at
abbrev pub part_within : Result State CutError → ℕ → Result Row CutError
part_within (Ok s) least = row_of (part_from s 12 least)
part_within (Err e) least = Err e

abbrev pub part_row : Loaded → ℕ → ℕ → Result Row CutError
part_row i from least = part_within (after (start_of i) (from - 1)) least

-- the next pc is new
pub first_step : part_row rounds 1 1 ≡ Ok (row 1 (Some 4) false)
unfolding step_of selection
first_step = refl

pub up_to_the_start_of_the_round : part_row rounds 3 2 ≡ Ok (row 2 (Some 4) false)
unfolding step_of selection
up_to_the_start_of_the_round = refl

-- after three steps it isn't, and at the end of the rounds it is
pub up_to_the_end_of_the_rounds : part_row rounds 3 3 ≡ Ok (row 5 (Some 16) false)
unfolding step_of selection
up_to_the_end_of_the_rounds = refl

-- the run's own end, also if the part has fewer steps than were asked for
pub up_to_the_end : part_row rounds 3 6 ≡ Ok (row 6 None false)
unfolding step_of selection
up_to_the_end = refl

pub fewer_steps : part_row rounds 8 10 ≡ Ok (row 1 None false)
unfolding step_of selection
fewer_steps = refl

pub after_the_end : part_of rounds 9 1 ≡ Err errors.NoSuchStep
unfolding step_of selection
after_the_end = refl

-- a store before the part changed its code, or one in the part
pub code_was_overwritten : part_row writer 3 1 ≡ Ok (row 1 (Some 12) true)
unfolding step_of selection
code_was_overwritten = refl

pub code_is_overwritten_later : part_row writer 2 2 ≡ Ok (row 2 (Some 12) false)
unfolding step_of selection
code_is_overwritten_later = refl

-- a word that is stored to is no new pc
pub stored_word_is_used : part_row writer 2 1 ≡ Ok (row 2 (Some 12) false)
unfolding step_of selection
stored_word_is_used = refl

-- a part that ends before a fault is there
pub fault_in_the_part : part_row writer 3 2 ≡ Err (errors.Fault (record { kind = faults.Access; pc = 12 }))
unfolding step_of selection
fault_in_the_part = refl

pub fault_before_the_part : part_of writer 5 1 ≡ Err (errors.Fault (record { kind = faults.Access; pc = 12 }))
unfolding step_of selection
fault_before_the_part = refl

-- an access uses both words that it touches
abbrev pub load : Step
load = record { instr = with_operands Lw 1 0 0 6; pc = 16; vj = 0; vk = 0 }

pub word_of_the_first_byte : uses 4 load ≡ true
word_of_the_first_byte = refl

pub word_of_the_last_byte : uses 8 load ≡ true
word_of_the_last_byte = refl

pub word_after_it : uses 12 load ≡ false
word_after_it = refl

pub word_of_the_pc : uses 16 load ≡ true
word_of_the_pc = refl

-- free words of a part that ends before address 12
abbrev pub loads_once : Part
loads_once = record { start = start_of rounds; steps = load ∷ []; end = Some 12 }

pub free_at_the_base : is_free loads_once 0 ≡ true
free_at_the_base = refl

pub read_is_not_free : is_free loads_once 8 ≡ false
read_is_not_free = refl

pub end_is_not_free : is_free loads_once 12 ≡ false
end_is_not_free = refl

pub last_is_free : is_free loads_once 60 ≡ true
last_is_free = refl

pub outside_is_not_free : is_free loads_once 64 ≡ false
outside_is_not_free = refl

-- low halves have a sign
pub half_below : low_half 0x123457ff ≡ 0x7ff
half_below = refl

pub half_above : low_half 0x12345800 ≡ 0xfffff800
half_above = refl

-- words of instructions, as an assembler makes them
pub lui_word : Means 0x00000fb7 (upper 31 0)
lui_word = (lit< tt, refl, refl)

pub lui_with_carry : Means 0x123460b7 (upper 1 0x12345800)
lui_with_carry = (lit< tt, refl, refl)

pub addi_word : Means 0x14010113 (lower 2 320)
addi_word = (lit< tt, refl, refl)

pub jal_word : Means 0xf05ff06f (jump 272 20)
jal_word = (lit< tt, refl, refl)

pub beq_word : Means 0xffff84e3 (branch 28 4)
beq_word = (lit< tt, refl, refl)

pub ebreak_word : Means 0x00100073 ebreak
ebreak_word = (lit< tt, refl, refl)

-- the headers of a window of 320 bytes from 0
pub file_header_bytes : file_header 32 no_sections
    ≡ words (0x464c457f ∷ 0x00010101 ∷ 0 ∷ 0 ∷ 0x00f30002 ∷ 1 ∷ 32 ∷ 52 ∷ 0 ∷ 0 ∷ 0x00200034 ∷ 1 ∷ 0 ∷ [])
file_header_bytes = refl

pub program_header_bytes : program_header (record { base = 0; size = 320 })
    ≡ words (1 ∷ 84 ∷ 0 ∷ 0 ∷ 320 ∷ 320 ∷ 7 ∷ 4 ∷ [])
program_header_bytes = refl

-- a global function and a local label of a file whose names begin at 100: the names are 1 and 6 bytes on
pub function_entry : entry_of 100 (symbol 0 0x110d4 116 Function Global 101)
    ≡ words (1 ∷ 0x110d4 ∷ 116 ∷ 0x00010012 ∷ [])
function_entry = refl

pub label_entry : entry_of 100 (symbol 1 0x11100 0 Label Other 106) ≡ words (6 ∷ 0x11100 ∷ 0 ∷ 0x00010000 ∷ [])
label_entry = refl

pub weak_entry : entry_of 100 (symbol 2 0x11104 4 Function Weak 106) ≡ words (6 ∷ 0x11104 ∷ 4 ∷ 0x00010022 ∷ [])
weak_entry = refl

-- the section headers of a window of 12,288 bytes from 65,536, with one global symbol and 27 bytes of names
pub section_header_bytes : section_headers (record { base = 65536; size = 12288 }) 1 0 27
    ≡ words (0 ∷ 0 ∷ 0 ∷ 0 ∷ 0 ∷ 0 ∷ 0 ∷ 0 ∷ 0 ∷ 0 ∷ [])
    ++ words (28 ∷ 1 ∷ 6 ∷ 0x10000 ∷ 0x54 ∷ 0x3000 ∷ 0 ∷ 0 ∷ 4 ∷ 0 ∷ [])
    ++ words (34 ∷ 2 ∷ 0 ∷ 0 ∷ 0x30f4 ∷ 0x20 ∷ 3 ∷ 1 ∷ 4 ∷ 16 ∷ [])
    ++ words (42 ∷ 3 ∷ 0 ∷ 0 ∷ 0x3114 ∷ 0x32 ∷ 0 ∷ 0 ∷ 1 ∷ 0 ∷ [])
section_header_bytes = refl

-- local symbols in front: those after the first other one don't count
pub two_locals : length (take_while is_local (symbol 0 0 0 Label Other 0 ∷ symbol 1 0 0 Function Other 0
    ∷ symbol 2 0 0 Function Global 0 ∷ symbol 3 0 0 Label Other 0 ∷ [])) ≡ 2
two_locals = refl
