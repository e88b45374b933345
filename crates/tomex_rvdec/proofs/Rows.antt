-- The table, computed on words with known meanings and on words that mean nothing.
use Rattle.std.proofs.Common.{◌≡◌, refl, Some, None}
use Rattle.tomex_rvdec.specs.declared.op.Op.TheVariants.{Lui, Jal, Jalr, Bne, Lb, Sw, Addi, Add, Mul, Fence, Ebreak}
use Rattle.tomex_rvdec.specs.declared.op.Op.TheVariants.{Srai}
use Rattle.tomex_rvdec.specs.declared.pool.PoolId.TheVariants as pools
use Rattle.tomex_rvdec.specs.declared.pool.UnitId.TheVariants as units
use Rattle.tomex_rvdec.specs.Meaning.{meaning, selection, with_operands}
use Rattle.tomex_rvdec.specs.Operands.{pool_of, unit_of, sources_of, dest_of}

pub addi : meaning 0x00500093 ≡ Some (with_operands Addi 1 0 0 5)
unfolding selection
addi = refl

pub mul : meaning 0x022081b3 ≡ Some (with_operands Mul 3 1 2 0)
unfolding selection
mul = refl

pub jal : meaning 0x0080006f ≡ Some (with_operands Jal 0 0 0 8)
unfolding selection
jal = refl

pub jalr : meaning 0x00030067 ≡ Some (with_operands Jalr 0 6 0 0)
unfolding selection
jalr = refl

pub sw : meaning 0x00142023 ≡ Some (with_operands Sw 0 8 1 0)
unfolding selection
sw = refl

pub sw8 : meaning 0x00002423 ≡ Some (with_operands Sw 0 0 0 8)
unfolding selection
sw8 = refl

pub lb : meaning 0x00140103 ≡ Some (with_operands Lb 2 8 0 1)
unfolding selection
lb = refl

pub bne : meaning 0xfe009ee3 ≡ Some (with_operands Bne 0 1 0 4294967292)
unfolding selection
bne = refl

pub lui : meaning 0x123452b7 ≡ Some (with_operands Lui 5 0 0 305418240)
unfolding selection
lui = refl

pub fence : meaning 0x0ff0000f ≡ Some (with_operands Fence 0 0 0 255)
unfolding selection
fence = refl

pub slli : meaning 0x40001013 ≡ None
unfolding selection
slli = refl

pub elf : meaning 0x464c457f ≡ None
unfolding selection
elf = refl

-- jal x0,-4 ; srai x1,x2,31
pub back : meaning 0xffdff06f ≡ Some (with_operands Jal 0 0 0 4294967292)
unfolding selection
back = refl

pub srai : meaning 0x41f15093 ≡ Some (with_operands Srai 1 2 0 31)
unfolding selection
srai = refl

-- every load, store, branch and product has its own pool, unit and operands
pub add_parts : (pool_of Add ≡ Some pools.Alu) × (unit_of Add ≡ Some units.Alu)
add_parts = (refl, refl)

pub load_parts : (pool_of Lb ≡ Some pools.Load) × (unit_of Lb ≡ Some units.Mem)
load_parts = (refl, refl)

pub jalr_parts : (pool_of Jalr ≡ Some pools.Bru) × (unit_of Jalr ≡ Some units.Bru)
jalr_parts = (refl, refl)

pub ebreak_parts : (pool_of Ebreak ≡ None) × (unit_of Ebreak ≡ None)
ebreak_parts = (refl, refl)

-- a store reads its base and its value, and writes no register
pub store_operands : (sources_of (with_operands Sw 0 8 1 0) ≡ record { j = Some 8; k = Some 1 })
    × (dest_of (with_operands Sw 0 8 1 0) ≡ None)
store_operands = (refl, refl)

-- a result for x0 has no destination
pub x0_is_no_destination : dest_of (with_operands Jalr 0 6 0 0) ≡ None
x0_is_no_destination = refl
