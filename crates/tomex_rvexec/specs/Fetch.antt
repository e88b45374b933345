-- Which instruction is at an address of an image as it was loaded (RV32I, section 1.5 "Base Instruction-Length
-- Encoding": parcels are little-endian).
use Rattle.std.specs.Prelude.{◌≡◌, ◌==◌, ℕ, ◌-◌, ◌/◌, ◌%◌, slice_index_or, if◌then◌else◌}
use Rattle.std.specs.Prelude.{Option, Some, None, Result, Ok, Err, All, ⊤}
use Rattle.tomex_image.specs.Image.{Loaded}
use Rattle.tomex_rvdec.specs.Instruction.{Instruction}
use Rattle.tomex_rvdec.specs.Meaning.{meaning}
use Rattle.tomex_rvexec.specs.declared.decode_cache.DecodeCache.{DecodeCache}
use Rattle.tomex_rvexec.specs.declared.decode_cache.Line.{Line}
use Rattle.tomex_rvexec.specs.declared.outcome.FaultKind.{FaultKind}
use Rattle.tomex_rvexec.specs.declared.outcome.FaultKind.TheVariants.{Fetch, Illegal}
use Rattle.tomex_rvexec.specs.Memory.{is_inside, word_read}

-- the word at an address of an image
abbrev pub word_at : Loaded → ℕ → ℕ
word_at i pc = word_read i.memory (pc - i.window.base)

-- a word that means nothing is illegal
abbrev pub legal : Option Instruction → Result Instruction FaultKind
legal None = Err Illegal
legal (Some x) = Ok x

-- the instruction that the word at an address means, or the fault of fetching or decoding it
abbrev pub instruction_at : Loaded → ℕ → Result Instruction FaultKind
instruction_at i pc =
    if is_inside i.window.base i.window.size pc 4
    then legal (meaning (word_at i pc))
    else Err Fetch

-- the line of an address in a decode cache
abbrev pub line_of : ℕ → ℕ
line_of pc = pc / 4 % 1024

-- the instruction that a line holds for an address, if the line names that address
abbrev pub instruction_in : Option Line → ℕ → Option Instruction
instruction_in None pc = None
instruction_in (Some line) pc = if line.pc == pc then Some line.instr else None

-- the instruction that a decode cache keeps for an address
abbrev pub kept_at : DecodeCache → ℕ → Option Instruction
kept_at cache pc = instruction_in (slice_index_or cache.lines (line_of pc) None) pc

-- what a line may hold: nothing, or the image's instruction at the address that it names
abbrev pub IsLine : Loaded → Option Line → Type 0
IsLine i None = ⊤
IsLine i (Some line) = instruction_at i line.pc ≡ Ok line.instr

-- everything that is kept is in the image
abbrev pub IsCacheOf : Loaded → DecodeCache → Type 0
IsCacheOf i cache = All (IsLine i) cache.lines
