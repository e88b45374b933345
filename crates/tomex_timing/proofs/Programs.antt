-- Short runs, step by step, and configurations to time them on.
use Rattle.std.proofs.Common.{ℕ, List, [], ◌∷◌}
use Rattle.tomex_rvdec.specs.Instruction.{Instruction}
use Rattle.tomex_rvdec.specs.declared.op.Op.{Op}
use Rattle.tomex_rvdec.specs.declared.op.Op.TheVariants.{Addi, Mul, Sw, Lb, Jal, Jalr, Ebreak}
use Rattle.tomex_rvdec.specs.declared.pool.PoolId.TheVariants as pools
use Rattle.tomex_rvdec.specs.declared.pool.UnitId.{UnitId}
use Rattle.tomex_rvexec.specs.declared.step.Step.{Step}
use Rattle.tomex_config.specs.Configuration.{Configuration, plain, with_stations, with_option}

-- an instruction that takes these values from rs1 and rs2
abbrev pub step : ℕ → Instruction → ℕ → ℕ → Step
step pc instr vj vk = record { pc = pc; instr = instr; vj = vj; vk = vk }

abbrev pub instr : Op → ℕ → ℕ → ℕ → ℕ → Instruction
instr op rd rs1 rs2 imm = record { op = op; rd = rd; rs1 = rs1; rs2 = rs2; imm = imm }

abbrev pub addi : ℕ → ℕ → ℕ → ℕ → ℕ → Step
addi pc rd rs1 imm vj = step pc (instr Addi rd rs1 0 imm) vj 0

abbrev pub mul : ℕ → ℕ → ℕ → ℕ → ℕ → ℕ → Step
mul pc rd rs1 rs2 vj vk = step pc (instr Mul rd rs1 rs2 0) vj vk

abbrev pub ebreak : ℕ → Step
ebreak pc = step pc (instr Ebreak 0 0 0 0) 0 0

-- addi x1,x0,5; addi x2,x0,7; mul x3,x1,x2; ebreak
abbrev pub product : List Step
product = addi 0 1 0 5 0 ∷ addi 4 2 0 7 0 ∷ mul 8 3 1 2 5 7 ∷ ebreak 12 ∷ []

-- mul x3,x0,x0; addi x4,x0,1; ebreak
abbrev pub two_results : List Step
two_results = mul 0 3 0 0 0 0 ∷ addi 4 4 0 1 0 ∷ ebreak 8 ∷ []

-- mul x3,x0,x0; addi x4,x3,0; addi x5,x3,0; ebreak
abbrev pub two_readers : List Step
two_readers = mul 0 3 0 0 0 0 ∷ addi 4 4 3 0 0 ∷ addi 8 5 3 0 0 ∷ ebreak 12 ∷ []

-- mul x5,x1,x2; addi x5,x0,1; ebreak
abbrev pub overwritten : List Step
overwritten = mul 0 5 1 2 0 65536 ∷ addi 4 5 0 1 0 ∷ ebreak 8 ∷ []

-- addi x8,x0,256; addi x1,x0,768; sw x1,0(x8); lb x2,OFFSET(x8); ebreak
abbrev pub stored_and_loaded : ℕ → List Step
stored_and_loaded offset = addi 0 8 0 256 0 ∷ addi 4 1 0 768 0 ∷ step 8 (instr Sw 0 8 1 0) 256 768
    ∷ step 12 (instr Lb 2 8 0 offset) 256 0 ∷ ebreak 16 ∷ []

-- addi x5,x0,4; mul x6,x5,x5; jalr x0,0(x6); at 16 ebreak
abbrev pub jump_to_product : List Step
jump_to_product = addi 0 5 0 4 0 ∷ mul 4 6 5 5 4 4 ∷ step 8 (instr Jalr 0 6 0 0) 16 0 ∷ ebreak 16 ∷ []

-- addi x5,x0,4; mul x6,x5,x5; jal x0,8; at 16 ebreak
abbrev pub jump_past : List Step
jump_past = addi 0 5 0 4 0 ∷ mul 4 6 5 5 4 4 ∷ step 8 (instr Jal 0 0 0 8) 0 0 ∷ ebreak 16 ∷ []

-- addi x8,x0,256; lb x1,0(x8); lb x2,0(x8); ebreak
abbrev pub two_loads : List Step
two_loads = addi 0 8 0 256 0 ∷ step 4 (instr Lb 1 8 0 0) 256 0 ∷ step 8 (instr Lb 2 8 0 0) 256 0 ∷ ebreak 12 ∷ []

abbrev pub two_alu_stations : Configuration
two_alu_stations = with_stations pools.Alu plain 2

-- one unit of the kind, of this latency
abbrev pub with_latency : UnitId → Configuration → ℕ → Configuration
with_latency unit config n = with_option unit config (record { units = 1; latency = n; price = 0 })
