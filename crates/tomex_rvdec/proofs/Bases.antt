-- Each instruction that fits its form is meant by a word. A row for each operation gives the word whose operands are
-- all zero, and that its fixed bits are all that selects the operation.
use Rattle.std.proofs.Common.{◌≡◌, ℕ, ◌^◌, ◌%◌, IsTrue, refl, true}
use Rattle.tomex_rvdec.specs.declared.op.Op.{Op}
use Rattle.tomex_rvdec.specs.declared.op.Op.TheVariants.{Lui, Auipc, Jal, Jalr, Beq, Bne, Blt, Bge, Bltu, Bgeu, Lb}
use Rattle.tomex_rvdec.specs.declared.op.Op.TheVariants.{Lh, Lw, Lbu, Lhu, Sb, Sh, Sw, Addi, Slti, Sltiu, Xori, Ori}
use Rattle.tomex_rvdec.specs.declared.op.Op.TheVariants.{Andi, Slli, Srli, Srai, Add, Sub, Sll, Slt, Sltu, Xor, Srl}
use Rattle.tomex_rvdec.specs.declared.op.Op.TheVariants.{Sra, Or, And, Mul, Mulh, Mulhsu, Mulhu, Div, Divu, Rem}
use Rattle.tomex_rvdec.specs.declared.op.Op.TheVariants.{Remu, Fence, Ecall, Ebreak}
use Rattle.tomex_rvdec.specs.declared.op.Form.TheVariants as forms
use Rattle.tomex_rvdec.specs.Fields.{opcode, funct3, funct7}
use Rattle.tomex_rvdec.specs.Meaning.{selects, form_of, has_fixed_funct3, has_fixed_funct7}

abbrev pub base_of : Op → ℕ
base_of Lui = 0x00000037
base_of Auipc = 0x00000017
base_of Jal = 0x0000006f
base_of Jalr = 0x00000067
base_of Beq = 0x00000063
base_of Bne = 0x00001063
base_of Blt = 0x00004063
base_of Bge = 0x00005063
base_of Bltu = 0x00006063
base_of Bgeu = 0x00007063
base_of Lb = 0x00000003
base_of Lh = 0x00001003
base_of Lw = 0x00002003
base_of Lbu = 0x00004003
base_of Lhu = 0x00005003
base_of Sb = 0x00000023
base_of Sh = 0x00001023
base_of Sw = 0x00002023
base_of Addi = 0x00000013
base_of Slti = 0x00002013
base_of Sltiu = 0x00003013
base_of Xori = 0x00004013
base_of Ori = 0x00006013
base_of Andi = 0x00007013
base_of Slli = 0x00001013
base_of Srli = 0x00005013
base_of Srai = 0x40005013
base_of Add = 0x00000033
base_of Sub = 0x40000033
base_of Sll = 0x00001033
base_of Slt = 0x00002033
base_of Sltu = 0x00003033
base_of Xor = 0x00004033
base_of Srl = 0x00005033
base_of Sra = 0x40005033
base_of Or = 0x00006033
base_of And = 0x00007033
base_of Mul = 0x02000033
base_of Mulh = 0x02001033
base_of Mulhsu = 0x02002033
base_of Mulhu = 0x02003033
base_of Div = 0x02004033
base_of Divu = 0x02005033
base_of Rem = 0x02006033
base_of Remu = 0x02007033
base_of Fence = 0x0000000f
base_of Ecall = 0x00000073
base_of Ebreak = 0x00100073

-- the words with the fixed bits of an operation select it
pub selected_as : (op : Op) (w : ℕ) → opcode w ≡ opcode (base_of op)
    → (has_fixed_funct3 (form_of op) ≡ true → funct3 w ≡ funct3 (base_of op))
    → (has_fixed_funct7 (form_of op) ≡ true → funct7 w ≡ funct7 (base_of op))
    → (form_of op ≡ forms.Whole → w ≡ base_of op % 2 ^ 32) → IsTrue (selects op w)
selected_as Lui w a b c d = rw a (refl {a = true})
selected_as Auipc w a b c d = rw a (refl {a = true})
selected_as Jal w a b c d = rw a (refl {a = true})
selected_as Jalr w a b c d = rw (a, b refl) (refl {a = true})
selected_as Beq w a b c d = rw (a, b refl) (refl {a = true})
selected_as Bne w a b c d = rw (a, b refl) (refl {a = true})
selected_as Blt w a b c d = rw (a, b refl) (refl {a = true})
selected_as Bge w a b c d = rw (a, b refl) (refl {a = true})
selected_as Bltu w a b c d = rw (a, b refl) (refl {a = true})
selected_as Bgeu w a b c d = rw (a, b refl) (refl {a = true})
selected_as Lb w a b c d = rw (a, b refl) (refl {a = true})
selected_as Lh w a b c d = rw (a, b refl) (refl {a = true})
selected_as Lw w a b c d = rw (a, b refl) (refl {a = true})
selected_as Lbu w a b c d = rw (a, b refl) (refl {a = true})
selected_as Lhu w a b c d = rw (a, b refl) (refl {a = true})
selected_as Sb w a b c d = rw (a, b refl) (refl {a = true})
selected_as Sh w a b c d = rw (a, b refl) (refl {a = true})
selected_as Sw w a b c d = rw (a, b refl) (refl {a = true})
selected_as Addi w a b c d = rw (a, b refl) (refl {a = true})
selected_as Slti w a b c d = rw (a, b refl) (refl {a = true})
selected_as Sltiu w a b c d = rw (a, b refl) (refl {a = true})
selected_as Xori w a b c d = rw (a, b refl) (refl {a = true})
selected_as Ori w a b c d = rw (a, b refl) (refl {a = true})
selected_as Andi w a b c d = rw (a, b refl) (refl {a = true})
selected_as Slli w a b c d = rw (a, b refl, c refl) (refl {a = true})
selected_as Srli w a b c d = rw (a, b refl, c refl) (refl {a = true})
selected_as Srai w a b c d = rw (a, b refl, c refl) (refl {a = true})
selected_as Add w a b c d = rw (a, b refl, c refl) (refl {a = true})
selected_as Sub w a b c d = rw (a, b refl, c refl) (refl {a = true})
selected_as Sll w a b c d = rw (a, b refl, c refl) (refl {a = true})
selected_as Slt w a b c d = rw (a, b refl, c refl) (refl {a = true})
selected_as Sltu w a b c d = rw (a, b refl, c refl) (refl {a = true})
selected_as Xor w a b c d = rw (a, b refl, c refl) (refl {a = true})
selected_as Srl w a b c d = rw (a, b refl, c refl) (refl {a = true})
selected_as Sra w a b c d = rw (a, b refl, c refl) (refl {a = true})
selected_as Or w a b c d = rw (a, b refl, c refl) (refl {a = true})
selected_as And w a b c d = rw (a, b refl, c refl) (refl {a = true})
selected_as Mul w a b c d = rw (a, b refl, c refl) (refl {a = true})
selected_as Mulh w a b c d = rw (a, b refl, c refl) (refl {a = true})
selected_as Mulhsu w a b c d = rw (a, b refl, c refl) (refl {a = true})
selected_as Mulhu w a b c d = rw (a, b refl, c refl) (refl {a = true})
selected_as Div w a b c d = rw (a, b refl, c refl) (refl {a = true})
selected_as Divu w a b c d = rw (a, b refl, c refl) (refl {a = true})
selected_as Rem w a b c d = rw (a, b refl, c refl) (refl {a = true})
selected_as Remu w a b c d = rw (a, b refl, c refl) (refl {a = true})
selected_as Fence w a b c d = rw (a, b refl) (refl {a = true})
selected_as Ecall w a b c d = rw (d refl) (refl {a = true})
selected_as Ebreak w a b c d = rw (d refl) (refl {a = true})
