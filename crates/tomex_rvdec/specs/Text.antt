-- The text of an address, and that of an instruction, as assemblers write it: the mnemonic in lower case, a space, and
-- the operands joined by commas. Numbers are decimal and signed, except the upper 20 bits of LUI and AUIPC and the amounts of shifts.
use Rattle.std.specs.Prelude.{ℕ, ◌-◌, ◌/◌, ◌^◌, false, List, [], ◌++◌, codes}
use Rattle.std.specs.Fmt.{decimal, signed_decimal, digits, padded_integral, format_spec}
use Rattle.std.specs.Int.{cast_signed, w32}
use Rattle.tomex_rvdec.specs.declared.op.Op.{Op}
use Rattle.tomex_rvdec.specs.declared.op.Op.TheVariants.{Lui, Auipc, Jal, Jalr, Beq, Bne, Blt, Bge, Bltu, Bgeu, Lb}
use Rattle.tomex_rvdec.specs.declared.op.Op.TheVariants.{Lh, Lw, Lbu, Lhu, Sb, Sh, Sw, Addi, Slti, Sltiu, Xori, Ori}
use Rattle.tomex_rvdec.specs.declared.op.Op.TheVariants.{Andi, Slli, Srli, Srai, Add, Sub, Sll, Slt, Sltu, Xor, Srl}
use Rattle.tomex_rvdec.specs.declared.op.Op.TheVariants.{Sra, Or, And, Mul, Mulh, Mulhsu, Mulhu, Div, Divu, Rem}
use Rattle.tomex_rvdec.specs.declared.op.Op.TheVariants.{Remu, Fence, Ecall, Ebreak}
use Rattle.tomex_rvdec.specs.declared.op.Form.{Form}
use Rattle.tomex_rvdec.specs.declared.op.Form.TheVariants as forms
use Rattle.tomex_rvdec.specs.Instruction.{Instruction}
use Rattle.tomex_rvdec.specs.Meaning.{form_of}

-- eight hexadecimal digits in lower case, the highest first, as `{:08x}` writes them
abbrev pub hex8 : ℕ → List ℕ
hex8 n = padded_integral (format_spec 32 0 4 8 (2 ^ 64 - 1)) false [] (digits 16 false n)

abbrev pub name_of : Op → List ℕ
name_of Lui = codes "lui"
name_of Auipc = codes "auipc"
name_of Jal = codes "jal"
name_of Jalr = codes "jalr"
name_of Beq = codes "beq"
name_of Bne = codes "bne"
name_of Blt = codes "blt"
name_of Bge = codes "bge"
name_of Bltu = codes "bltu"
name_of Bgeu = codes "bgeu"
name_of Lb = codes "lb"
name_of Lh = codes "lh"
name_of Lw = codes "lw"
name_of Lbu = codes "lbu"
name_of Lhu = codes "lhu"
name_of Sb = codes "sb"
name_of Sh = codes "sh"
name_of Sw = codes "sw"
name_of Addi = codes "addi"
name_of Slti = codes "slti"
name_of Sltiu = codes "sltiu"
name_of Xori = codes "xori"
name_of Ori = codes "ori"
name_of Andi = codes "andi"
name_of Slli = codes "slli"
name_of Srli = codes "srli"
name_of Srai = codes "srai"
name_of Add = codes "add"
name_of Sub = codes "sub"
name_of Sll = codes "sll"
name_of Slt = codes "slt"
name_of Sltu = codes "sltu"
name_of Xor = codes "xor"
name_of Srl = codes "srl"
name_of Sra = codes "sra"
name_of Or = codes "or"
name_of And = codes "and"
name_of Mul = codes "mul"
name_of Mulh = codes "mulh"
name_of Mulhsu = codes "mulhsu"
name_of Mulhu = codes "mulhu"
name_of Div = codes "div"
name_of Divu = codes "divu"
name_of Rem = codes "rem"
name_of Remu = codes "remu"
name_of Fence = codes "fence"
name_of Ecall = codes "ecall"
name_of Ebreak = codes "ebreak"

-- a register's name
abbrev pub register_text : ℕ → List ℕ
register_text r = codes "x" ++ decimal r

-- an immediate as a signed number
abbrev pub offset_text : ℕ → List ℕ
offset_text imm = signed_decimal (cast_signed w32 imm)

-- a space and the operands of a form
abbrev pub operands_text : Form → Instruction → List ℕ
operands_text forms.Register x =
    codes " " ++ (register_text x.rd ++ (codes "," ++ (register_text x.rs1 ++ (codes "," ++ register_text x.rs2))))
operands_text forms.Immediate x =
    codes " " ++ (register_text x.rd ++ (codes "," ++ (register_text x.rs1 ++ (codes "," ++ offset_text x.imm))))
operands_text forms.Offset x =
    codes " "
    ++ (register_text x.rd ++ (codes "," ++ (offset_text x.imm ++ (codes "(" ++ (register_text x.rs1 ++ codes ")")))))
operands_text forms.Shift x =
    codes " " ++ (register_text x.rd ++ (codes "," ++ (register_text x.rs1 ++ (codes "," ++ decimal x.imm))))
operands_text forms.Store x =
    codes " "
    ++ (register_text x.rs2 ++ (codes "," ++ (offset_text x.imm ++ (codes "(" ++ (register_text x.rs1 ++ codes ")")))))
operands_text forms.Branch x =
    codes " " ++ (register_text x.rs1 ++ (codes "," ++ (register_text x.rs2 ++ (codes "," ++ offset_text x.imm))))
operands_text forms.Upper x = codes " " ++ (register_text x.rd ++ (codes "," ++ decimal (x.imm / 2 ^ 12)))
operands_text forms.Jump x = codes " " ++ (register_text x.rd ++ (codes "," ++ offset_text x.imm))
operands_text forms.Fence x = codes ""
operands_text forms.Whole x = codes ""

abbrev pub instr_text : Instruction → List ℕ
instr_text x = name_of x.op ++ operands_text (form_of x.op) x
