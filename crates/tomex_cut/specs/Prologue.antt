-- The instructions of a prologue, which load the registers before a part and go to its first pc, and where they stand.
use Rattle.std.specs.Prelude.{◌≡◌, ℕ, ◌+◌, ◌-◌, ◌*◌, ◌%◌, ◌^◌, ◌≤◌, ◌||◌, Bool, false, List, length, slice_index}
use Rattle.std.specs.Prelude.{Option, Some, None, IfSome}
use Rattle.tomex_cut.specs.Part.{word_bytes}
use Rattle.tomex_rvdec.specs.declared.op.Op.TheVariants.{Lui, Addi, Jal, Beq, Ebreak}
use Rattle.tomex_rvdec.specs.Fields.{sign_extended}
use Rattle.tomex_rvdec.specs.Instruction.{Instruction}
use Rattle.tomex_rvdec.specs.Meaning.{Means, with_operands}
use Rattle.tomex_rvexec.specs.Memory.{Bytes, word_read}
use Rattle.tomex_rvexec.specs.Results.{byte_in, is_among}
use Rattle.tomex_rvexec.specs.Words.{difference}

-- the low half of a value: its low twelve bits, with their sign
abbrev pub low_half : ℕ → ℕ
low_half v = sign_extended 12 (v % 2 ^ 12)

-- a register is loaded by two instructions: LUI of the value less its low half, and ADDI of that
abbrev pub upper : ℕ → ℕ → Instruction
upper r v = with_operands Lui r 0 0 (difference v (low_half v))

abbrev pub lower : ℕ → ℕ → Instruction
lower r v = with_operands Addi r r 0 (low_half v)

-- `jal x0` and `beq x31,x31` at an address, to a target
abbrev pub jump : ℕ → ℕ → Instruction
jump at target = with_operands Jal 0 0 0 (difference target at)

abbrev pub branch : ℕ → ℕ → Instruction
branch at target = with_operands Beq 0 31 31 (difference target at)

abbrev pub ebreak : Instruction
ebreak = with_operands Ebreak 0 0 0 0

-- the word at an address of a memory means this instruction
abbrev pub HasWord : Bytes → ℕ → Instruction → Type 0
HasWord m a x = Means (word_read m.bytes (a - m.base)) x

-- the two instructions that load a register
pub record HasPair (m : Bytes) (a r v : ℕ) : Type 0 where
  pub first : HasWord m a (upper r v)
  pub second : HasWord m (a + 4) (lower r v)

-- the place: pairs of x1 to x30, in order, and a jump to the hook
pub record HasPlace (m : Bytes) (a hook : ℕ) (regs : List ℕ) : Type 0 where
  pub pairs : (r : ℕ) → 1 ≤ r → r ≤ 30 → HasPair m (a + 8 * (r - 1)) r (slice_index regs r)
  pub last : HasWord m (a + 240) (jump (a + 240) hook)

-- the hook: the pair of x31, and the branch to the part's first pc
pub record HasHook (m : Bytes) (a pc : ℕ) (regs : List ℕ) : Type 0 where
  pub pair : HasPair m a 31 (slice_index regs 31)
  pub last : HasWord m (a + 8) (branch (a + 8) pc)

-- the bytes of the end's word, if there is one
abbrev pub end_bytes : Option ℕ → ℕ → Bool
end_bytes None b = false
end_bytes (Some e) b = is_among (word_bytes e) b

-- the byte at an address is one of the hook's, the place's or the end's
abbrev pub is_written : Option ℕ → ℕ → ℕ → ℕ → Bool
is_written end hook place b =
    is_among (Some (record { from = hook; to = hook + 12 })) b
    || is_among (Some (record { from = place; to = place + 244 })) b
    || end_bytes end b

-- a memory with a prologue in it, which loads the registers and goes to the pc, and an EBREAK at the end; all its other
-- bytes are those of the old one
pub record HasPrologue (old : Bytes) (pc : ℕ) (regs : List ℕ) (end : Option ℕ) (hook place : ℕ) (m : Bytes)
    : Type 0 where
  pub base : m.base ≡ old.base
  pub size : length m.bytes ≡ length old.bytes
  pub on_hook : HasHook m hook pc regs
  pub on_place : HasPlace m place hook regs
  pub on_end : IfSome end (λ e. HasWord m e ebreak)
  pub others : (b : ℕ) → old.base ≤ b → is_written end hook place b ≡ false → byte_in m b ≡ byte_in old b
