-- The table of the instruction words: which word means which instruction (the manual's chapter "RV32/64G Instruction
-- Set Listings", the tables of RV32I and RV32M). A row for each operation gives its fixed bits; a row for each form
-- says where its operands are.
use Rattle.std.specs.Prelude.{◌≡◌, ℕ, ◌^◌, ◌<◌, Option, nat_eq, Bool}
use Rattle.std.specs.Prelude.{true, false, IsTrue, ◌&&◌, List, [], ◌∷◌, find, option_map}
use Rattle.tomex_rvdec.specs.declared.op.Op.{Op}
use Rattle.tomex_rvdec.specs.declared.op.Op.TheVariants.{Lui, Auipc, Jal, Jalr, Beq, Bne, Blt, Bge, Bltu, Bgeu, Lb}
use Rattle.tomex_rvdec.specs.declared.op.Op.TheVariants.{Lh, Lw, Lbu, Lhu, Sb, Sh, Sw, Addi, Slti, Sltiu, Xori, Ori}
use Rattle.tomex_rvdec.specs.declared.op.Op.TheVariants.{Andi, Slli, Srli, Srai, Add, Sub, Sll, Slt, Sltu, Xor, Srl}
use Rattle.tomex_rvdec.specs.declared.op.Op.TheVariants.{Sra, Or, And, Mul, Mulh, Mulhsu, Mulhu, Div, Divu, Rem}
use Rattle.tomex_rvdec.specs.declared.op.Op.TheVariants.{Remu, Fence, Ecall, Ebreak}
use Rattle.tomex_rvdec.specs.declared.op.Form.{Form}
use Rattle.tomex_rvdec.specs.declared.op.Form.TheVariants as forms
use Rattle.tomex_rvdec.specs.Fields.{field, opcode, rd_field, funct3, rs1_field, rs2_field}
use Rattle.tomex_rvdec.specs.Fields.{funct7, imm_i, imm_s, imm_b, imm_u, imm_j}
use Rattle.tomex_rvdec.specs.Instruction.{Instruction}

abbrev pub has_opcode : ℕ → ℕ → Bool
has_opcode code w = nat_eq (opcode w) code

abbrev pub has_funct3 : ℕ → ℕ → ℕ → Bool
has_funct3 code function w = nat_eq (opcode w) code && nat_eq (funct3 w) function

abbrev pub has_funct7 : ℕ → ℕ → ℕ → ℕ → Bool
has_funct7 code high function w = nat_eq (opcode w) code && nat_eq (funct3 w) function && nat_eq (funct7 w) high

-- the fixed bits of each operation
abbrev pub selects : Op → ℕ → Bool
selects Lui w = has_opcode 0b0110111 w
selects Auipc w = has_opcode 0b0010111 w
selects Jal w = has_opcode 0b1101111 w
selects Jalr w = has_funct3 0b1100111 0b000 w
selects Beq w = has_funct3 0b1100011 0b000 w
selects Bne w = has_funct3 0b1100011 0b001 w
selects Blt w = has_funct3 0b1100011 0b100 w
selects Bge w = has_funct3 0b1100011 0b101 w
selects Bltu w = has_funct3 0b1100011 0b110 w
selects Bgeu w = has_funct3 0b1100011 0b111 w
selects Lb w = has_funct3 0b0000011 0b000 w
selects Lh w = has_funct3 0b0000011 0b001 w
selects Lw w = has_funct3 0b0000011 0b010 w
selects Lbu w = has_funct3 0b0000011 0b100 w
selects Lhu w = has_funct3 0b0000011 0b101 w
selects Sb w = has_funct3 0b0100011 0b000 w
selects Sh w = has_funct3 0b0100011 0b001 w
selects Sw w = has_funct3 0b0100011 0b010 w
selects Addi w = has_funct3 0b0010011 0b000 w
selects Slti w = has_funct3 0b0010011 0b010 w
selects Sltiu w = has_funct3 0b0010011 0b011 w
selects Xori w = has_funct3 0b0010011 0b100 w
selects Ori w = has_funct3 0b0010011 0b110 w
selects Andi w = has_funct3 0b0010011 0b111 w
selects Slli w = has_funct7 0b0010011 0b0000000 0b001 w
selects Srli w = has_funct7 0b0010011 0b0000000 0b101 w
selects Srai w = has_funct7 0b0010011 0b0100000 0b101 w
selects Add w = has_funct7 0b0110011 0b0000000 0b000 w
selects Sub w = has_funct7 0b0110011 0b0100000 0b000 w
selects Sll w = has_funct7 0b0110011 0b0000000 0b001 w
selects Slt w = has_funct7 0b0110011 0b0000000 0b010 w
selects Sltu w = has_funct7 0b0110011 0b0000000 0b011 w
selects Xor w = has_funct7 0b0110011 0b0000000 0b100 w
selects Srl w = has_funct7 0b0110011 0b0000000 0b101 w
selects Sra w = has_funct7 0b0110011 0b0100000 0b101 w
selects Or w = has_funct7 0b0110011 0b0000000 0b110 w
selects And w = has_funct7 0b0110011 0b0000000 0b111 w
selects Mul w = has_funct7 0b0110011 0b0000001 0b000 w
selects Mulh w = has_funct7 0b0110011 0b0000001 0b001 w
selects Mulhsu w = has_funct7 0b0110011 0b0000001 0b010 w
selects Mulhu w = has_funct7 0b0110011 0b0000001 0b011 w
selects Div w = has_funct7 0b0110011 0b0000001 0b100 w
selects Divu w = has_funct7 0b0110011 0b0000001 0b101 w
selects Rem w = has_funct7 0b0110011 0b0000001 0b110 w
selects Remu w = has_funct7 0b0110011 0b0000001 0b111 w
selects Fence w = has_funct3 0b0001111 0b000 w
selects Ecall w = nat_eq w 0x00000073
selects Ebreak w = nat_eq w 0x00100073

-- the form of each operation's operands
abbrev pub form_of : Op → Form
form_of Lui = forms.Upper
form_of Auipc = forms.Upper
form_of Jal = forms.Jump
form_of Jalr = forms.Offset
form_of Beq = forms.Branch
form_of Bne = forms.Branch
form_of Blt = forms.Branch
form_of Bge = forms.Branch
form_of Bltu = forms.Branch
form_of Bgeu = forms.Branch
form_of Lb = forms.Offset
form_of Lh = forms.Offset
form_of Lw = forms.Offset
form_of Lbu = forms.Offset
form_of Lhu = forms.Offset
form_of Sb = forms.Store
form_of Sh = forms.Store
form_of Sw = forms.Store
form_of Addi = forms.Immediate
form_of Slti = forms.Immediate
form_of Sltiu = forms.Immediate
form_of Xori = forms.Immediate
form_of Ori = forms.Immediate
form_of Andi = forms.Immediate
form_of Slli = forms.Shift
form_of Srli = forms.Shift
form_of Srai = forms.Shift
form_of Add = forms.Register
form_of Sub = forms.Register
form_of Sll = forms.Register
form_of Slt = forms.Register
form_of Sltu = forms.Register
form_of Xor = forms.Register
form_of Srl = forms.Register
form_of Sra = forms.Register
form_of Or = forms.Register
form_of And = forms.Register
form_of Mul = forms.Register
form_of Mulh = forms.Register
form_of Mulhsu = forms.Register
form_of Mulhu = forms.Register
form_of Div = forms.Register
form_of Divu = forms.Register
form_of Rem = forms.Register
form_of Remu = forms.Register
form_of Fence = forms.Fence
form_of Ecall = forms.Whole
form_of Ebreak = forms.Whole

-- the instruction of these parts
abbrev pub with_operands : Op → ℕ → ℕ → ℕ → ℕ → Instruction
with_operands op rd rs1 rs2 imm = record { op = op; rd = rd; rs1 = rs1; rs2 = rs2; imm = imm }

-- the instruction of an operation in a word; a field that the form doesn't have is zero
abbrev pub operands_at : Form → ℕ → Op → Instruction
operands_at forms.Register w op = with_operands op (rd_field w) (rs1_field w) (rs2_field w) 0
operands_at forms.Immediate w op = with_operands op (rd_field w) (rs1_field w) 0 (imm_i w)
operands_at forms.Offset w op = with_operands op (rd_field w) (rs1_field w) 0 (imm_i w)
operands_at forms.Shift w op = with_operands op (rd_field w) (rs1_field w) 0 (rs2_field w)
operands_at forms.Store w op = with_operands op 0 (rs1_field w) (rs2_field w) (imm_s w)
operands_at forms.Branch w op = with_operands op 0 (rs1_field w) (rs2_field w) (imm_b w)
operands_at forms.Upper w op = with_operands op (rd_field w) 0 0 (imm_u w)
operands_at forms.Jump w op = with_operands op (rd_field w) 0 0 (imm_j w)
operands_at forms.Fence w op = with_operands op (rd_field w) (rs1_field w) 0 (field w 31 20)
operands_at forms.Whole w op = with_operands op 0 0 0 0

-- the word w, of 32 bits, means the instruction x
abbrev pub Means : ℕ → Instruction → Type 0
Means w x = (w < 2 ^ 32) × IsTrue (selects x.op w) × (x ≡ operands_at (form_of x.op) w x.op)

-- some word means x
unfoldable pub IsMeant : Instruction → Type 0
IsMeant x = (w : ℕ) × Means w x

-- which forms leave no operand in these fields
abbrev pub has_fixed_funct3 : Form → Bool
has_fixed_funct3 forms.Upper = false
has_fixed_funct3 forms.Jump = false
has_fixed_funct3 forms.Whole = false
has_fixed_funct3 _ = true

abbrev pub has_fixed_funct7 : Form → Bool
has_fixed_funct7 forms.Register = true
has_fixed_funct7 forms.Shift = true
has_fixed_funct7 _ = false

-- all operations
abbrev pub operations : List Op
operations =
    Lui ∷ Auipc ∷ Jal ∷ Jalr ∷ Beq ∷ Bne ∷ Blt ∷ Bge ∷ Bltu ∷ Bgeu ∷ Lb ∷ Lh ∷ Lw ∷ Lbu ∷ Lhu ∷ Sb ∷ Sh ∷ Sw ∷ Addi
    ∷ Slti ∷ Sltiu ∷ Xori ∷ Ori ∷ Andi ∷ Slli ∷ Srli ∷ Srai ∷ Add ∷ Sub ∷ Sll ∷ Slt ∷ Sltu ∷ Xor ∷ Srl ∷ Sra ∷ Or
    ∷ And ∷ Mul ∷ Mulh ∷ Mulhsu ∷ Mulhu ∷ Div ∷ Divu ∷ Rem ∷ Remu ∷ Fence ∷ Ecall ∷ Ebreak ∷ []

-- the operation that a word selects, if any
unfoldable pub selection : ℕ → Option Op
selection w = find (λ op. selects op w) operations

-- the meaning of a word, if it has one
abbrev pub meaning : ℕ → Option Instruction
meaning w = option_map (λ op. operands_at (form_of op) w op) (selection w)
