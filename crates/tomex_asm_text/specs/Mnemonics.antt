-- The mnemonics: those of RV32IM, and the manual's pseudoinstructions, with what each stands for (chapter "RISC-V
-- Assembly Programmer's Handbook", tables "RISC-V pseudoinstructions"). `sgt` and `sgtu` are GCC's.
use Rattle.std.specs.Prelude.{List, ℕ, [], ◌∷◌, Option, Some, None, pos, negsuc, true, false, codes, find}
use Rattle.std.specs.Str.{bytes_eq}
use Rattle.tomex_rvdec.specs.declared.op.Op.{Op}
use Rattle.tomex_rvdec.specs.declared.op.Op.TheVariants as ops
use Rattle.tomex_rvdec.specs.Meaning.{operations}
use Rattle.tomex_rvdec.specs.Text.{name_of}
use Rattle.tomex_asm_text.specs.declared.mnemonic.Mnemonic.{Mnemonic}
use Rattle.tomex_asm_text.specs.declared.mnemonic.Mnemonic.TheVariants.{Real, OfNumber, OfZero, Swapped, BranchOfZero}
use Rattle.tomex_asm_text.specs.declared.mnemonic.Mnemonic.TheVariants.{BranchSwapped, NoOperation, Return, Jump}
use Rattle.tomex_asm_text.specs.declared.mnemonic.Mnemonic.TheVariants.{JumpRegister, LoadAddress, Far, LoadNumber}
use Rattle.tomex_asm_tokens.specs.Registers.{named}

-- A row for each pseudoinstruction. The sides of what is compared with x0: true if x0 is the first
abbrev pub pseudoinstructions : List (List ℕ × Mnemonic)
pseudoinstructions =
    (codes "nop", NoOperation)
    ∷ (codes "mv", OfNumber ops.Addi (pos 0))
    ∷ (codes "not", OfNumber ops.Xori (negsuc 0))
    ∷ (codes "neg", OfZero ops.Sub true)
    ∷ (codes "seqz", OfNumber ops.Sltiu (pos 1))
    ∷ (codes "snez", OfZero ops.Sltu true)
    ∷ (codes "sltz", OfZero ops.Slt false)
    ∷ (codes "sgtz", OfZero ops.Slt true)
    ∷ (codes "sgt", Swapped ops.Slt)
    ∷ (codes "sgtu", Swapped ops.Sltu)
    ∷ (codes "beqz", BranchOfZero ops.Beq false)
    ∷ (codes "bnez", BranchOfZero ops.Bne false)
    ∷ (codes "blez", BranchOfZero ops.Bge true)
    ∷ (codes "bgez", BranchOfZero ops.Bge false)
    ∷ (codes "bltz", BranchOfZero ops.Blt false)
    ∷ (codes "bgtz", BranchOfZero ops.Blt true)
    ∷ (codes "bgt", BranchSwapped ops.Blt)
    ∷ (codes "ble", BranchSwapped ops.Bge)
    ∷ (codes "bgtu", BranchSwapped ops.Bltu)
    ∷ (codes "bleu", BranchSwapped ops.Bgeu)
    ∷ (codes "j", Jump)
    ∷ (codes "jr", JumpRegister)
    ∷ (codes "ret", Return)
    ∷ (codes "li", LoadNumber)
    ∷ (codes "la", LoadAddress)
    ∷ (codes "lla", LoadAddress)
    ∷ (codes "call", Far 1 1)
    ∷ (codes "tail", Far 6 0)
    ∷ []

abbrev pub real_or : Option Op → List ℕ → Option Mnemonic
real_or (Some op) w = Some (Real op)
real_or None w = named pseudoinstructions w

abbrev pub operation_named : List ℕ → Option Op
operation_named w = find (λ op. bytes_eq (name_of op) w) operations

-- the mnemonic with this name
unfoldable pub mnemonic_named : List ℕ → Option Mnemonic
mnemonic_named w = real_or (operation_named w) w
