-- The fixed bits of an operation select no other one: a row for each operation.
use Rattle.std.proofs.Common.{◌≡◌, ℕ, Some, IsTrue, refl, arith, nat_eq}
use Rattle.tomex_rvdec.specs.declared.op.Op.{Op}
use Rattle.tomex_rvdec.specs.declared.op.Op.TheVariants.{Lui, Auipc, Jal, Jalr, Beq, Bne, Blt, Bge, Bltu, Bgeu, Lb, Lh}
use Rattle.tomex_rvdec.specs.declared.op.Op.TheVariants.{Lw, Lbu, Lhu, Sb, Sh, Sw, Addi, Slti, Sltiu, Xori, Ori, Andi}
use Rattle.tomex_rvdec.specs.declared.op.Op.TheVariants.{Slli, Srli, Srai, Add, Sub, Sll, Slt, Sltu, Xor, Srl, Sra, Or}
use Rattle.tomex_rvdec.specs.declared.op.Op.TheVariants.{And, Mul, Mulh, Mulhsu, Mulhu, Div, Divu, Rem, Remu, Fence}
use Rattle.tomex_rvdec.specs.declared.op.Op.TheVariants.{Ecall, Ebreak}
use Rattle.tomex_rvdec.specs.Fields.{opcode, funct3, funct7}
use Rattle.tomex_rvdec.specs.Meaning.{selects, selection, has_opcode, has_funct3, has_funct7}

in_funct3 : (code function w : ℕ) → IsTrue (has_funct3 code function w) → (opcode w ≡ code) × (funct3 w ≡ function)
in_funct3 code function w h = grind arith

in_funct7 : (code high function w : ℕ) → IsTrue (has_funct7 code high function w) → (opcode w ≡ code)
    × (funct3 w ≡ function) × (funct7 w ≡ high)
in_funct7 code high function w h = grind arith

in_opcode : (code w : ℕ) → IsTrue (has_opcode code w) → opcode w ≡ code
in_opcode code w h = grind arith

whole : (code w : ℕ) → IsTrue (nat_eq w code) → w ≡ code
whole code w h = grind arith

pub selected_by : (op : Op) (w : ℕ) → IsTrue (selects op w) → selection w ≡ Some op
unfolding selection
selected_by Lui w h = let e = in_opcode 0b0110111 w h in rw e (refl {a = Some Lui})
selected_by Auipc w h = let e = in_opcode 0b0010111 w h in rw e (refl {a = Some Auipc})
selected_by Jal w h = let e = in_opcode 0b1101111 w h in rw e (refl {a = Some Jal})
selected_by Jalr w h = let e = in_funct3 0b1100111 0b000 w h in rw (e.0, e.1) (refl {a = Some Jalr})
selected_by Beq w h = let e = in_funct3 0b1100011 0b000 w h in rw (e.0, e.1) (refl {a = Some Beq})
selected_by Bne w h = let e = in_funct3 0b1100011 0b001 w h in rw (e.0, e.1) (refl {a = Some Bne})
selected_by Blt w h = let e = in_funct3 0b1100011 0b100 w h in rw (e.0, e.1) (refl {a = Some Blt})
selected_by Bge w h = let e = in_funct3 0b1100011 0b101 w h in rw (e.0, e.1) (refl {a = Some Bge})
selected_by Bltu w h = let e = in_funct3 0b1100011 0b110 w h in rw (e.0, e.1) (refl {a = Some Bltu})
selected_by Bgeu w h = let e = in_funct3 0b1100011 0b111 w h in rw (e.0, e.1) (refl {a = Some Bgeu})
selected_by Lb w h = let e = in_funct3 0b0000011 0b000 w h in rw (e.0, e.1) (refl {a = Some Lb})
selected_by Lh w h = let e = in_funct3 0b0000011 0b001 w h in rw (e.0, e.1) (refl {a = Some Lh})
selected_by Lw w h = let e = in_funct3 0b0000011 0b010 w h in rw (e.0, e.1) (refl {a = Some Lw})
selected_by Lbu w h = let e = in_funct3 0b0000011 0b100 w h in rw (e.0, e.1) (refl {a = Some Lbu})
selected_by Lhu w h = let e = in_funct3 0b0000011 0b101 w h in rw (e.0, e.1) (refl {a = Some Lhu})
selected_by Sb w h = let e = in_funct3 0b0100011 0b000 w h in rw (e.0, e.1) (refl {a = Some Sb})
selected_by Sh w h = let e = in_funct3 0b0100011 0b001 w h in rw (e.0, e.1) (refl {a = Some Sh})
selected_by Sw w h = let e = in_funct3 0b0100011 0b010 w h in rw (e.0, e.1) (refl {a = Some Sw})
selected_by Addi w h = let e = in_funct3 0b0010011 0b000 w h in rw (e.0, e.1) (refl {a = Some Addi})
selected_by Slti w h = let e = in_funct3 0b0010011 0b010 w h in rw (e.0, e.1) (refl {a = Some Slti})
selected_by Sltiu w h = let e = in_funct3 0b0010011 0b011 w h in rw (e.0, e.1) (refl {a = Some Sltiu})
selected_by Xori w h = let e = in_funct3 0b0010011 0b100 w h in rw (e.0, e.1) (refl {a = Some Xori})
selected_by Ori w h = let e = in_funct3 0b0010011 0b110 w h in rw (e.0, e.1) (refl {a = Some Ori})
selected_by Andi w h = let e = in_funct3 0b0010011 0b111 w h in rw (e.0, e.1) (refl {a = Some Andi})
selected_by Slli w h = let e = in_funct7 0b0010011 0b0000000 0b001 w h in rw (e.0, e.1, e.2) (refl {a = Some Slli})
selected_by Srli w h = let e = in_funct7 0b0010011 0b0000000 0b101 w h in rw (e.0, e.1, e.2) (refl {a = Some Srli})
selected_by Srai w h = let e = in_funct7 0b0010011 0b0100000 0b101 w h in rw (e.0, e.1, e.2) (refl {a = Some Srai})
selected_by Add w h = let e = in_funct7 0b0110011 0b0000000 0b000 w h in rw (e.0, e.1, e.2) (refl {a = Some Add})
selected_by Sub w h = let e = in_funct7 0b0110011 0b0100000 0b000 w h in rw (e.0, e.1, e.2) (refl {a = Some Sub})
selected_by Sll w h = let e = in_funct7 0b0110011 0b0000000 0b001 w h in rw (e.0, e.1, e.2) (refl {a = Some Sll})
selected_by Slt w h = let e = in_funct7 0b0110011 0b0000000 0b010 w h in rw (e.0, e.1, e.2) (refl {a = Some Slt})
selected_by Sltu w h = let e = in_funct7 0b0110011 0b0000000 0b011 w h in rw (e.0, e.1, e.2) (refl {a = Some Sltu})
selected_by Xor w h = let e = in_funct7 0b0110011 0b0000000 0b100 w h in rw (e.0, e.1, e.2) (refl {a = Some Xor})
selected_by Srl w h = let e = in_funct7 0b0110011 0b0000000 0b101 w h in rw (e.0, e.1, e.2) (refl {a = Some Srl})
selected_by Sra w h = let e = in_funct7 0b0110011 0b0100000 0b101 w h in rw (e.0, e.1, e.2) (refl {a = Some Sra})
selected_by Or w h = let e = in_funct7 0b0110011 0b0000000 0b110 w h in rw (e.0, e.1, e.2) (refl {a = Some Or})
selected_by And w h = let e = in_funct7 0b0110011 0b0000000 0b111 w h in rw (e.0, e.1, e.2) (refl {a = Some And})
selected_by Mul w h = let e = in_funct7 0b0110011 0b0000001 0b000 w h in rw (e.0, e.1, e.2) (refl {a = Some Mul})
selected_by Mulh w h = let e = in_funct7 0b0110011 0b0000001 0b001 w h in rw (e.0, e.1, e.2) (refl {a = Some Mulh})
selected_by Mulhsu w h = let e = in_funct7 0b0110011 0b0000001 0b010 w h in rw (e.0, e.1, e.2) (refl {a = Some Mulhsu})
selected_by Mulhu w h = let e = in_funct7 0b0110011 0b0000001 0b011 w h in rw (e.0, e.1, e.2) (refl {a = Some Mulhu})
selected_by Div w h = let e = in_funct7 0b0110011 0b0000001 0b100 w h in rw (e.0, e.1, e.2) (refl {a = Some Div})
selected_by Divu w h = let e = in_funct7 0b0110011 0b0000001 0b101 w h in rw (e.0, e.1, e.2) (refl {a = Some Divu})
selected_by Rem w h = let e = in_funct7 0b0110011 0b0000001 0b110 w h in rw (e.0, e.1, e.2) (refl {a = Some Rem})
selected_by Remu w h = let e = in_funct7 0b0110011 0b0000001 0b111 w h in rw (e.0, e.1, e.2) (refl {a = Some Remu})
selected_by Fence w h = let e = in_funct3 0b0001111 0b000 w h in rw (e.0, e.1) (refl {a = Some Fence})
selected_by Ecall w h = let e = whole 0x00000073 w h in rw e (refl {a = Some Ecall})
selected_by Ebreak w h = let e = whole 0x00100073 w h in rw e (refl {a = Some Ebreak})
