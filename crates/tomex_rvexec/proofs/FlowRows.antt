-- The data flow of small programs, computed.
use Rattle.std.proofs.Common.{ℕ, ◌≡◌, refl, List, [], ◌∷◌}
use Rattle.std.specs.Prelude.{map}
use Rattle.tomex_image.specs.Image.{Loaded}
use Rattle.tomex_rvdec.specs.Meaning.{selection}
use Rattle.tomex_rvexec.specs.declared.step.Step.{Step}
use Rattle.tomex_rvexec.specs.Results.{next_pc_of}
use Rattle.tomex_rvexec.specs.History.{history, byte_after, register_after}
use Rattle.tomex_rvexec.specs.Machine.{step_of}
use Rattle.tomex_rvexec.proofs.Rows.{image_at}

-- addi x1,x0,5; addi x2,x0,7; mul x3,x1,x2; ebreak
abbrev product : Loaded
product = image_at 0 (0x00500093 ∷ 0x00700113 ∷ 0x022081b3 ∷ 0x00100073 ∷ [])

abbrev registers : Loaded → List Step → List ℕ
registers i steps = map (λ r. register_after i steps r) (1 ∷ 2 ∷ 3 ∷ [])

abbrev nexts : List Step → List ℕ
nexts steps = map (λ (x : Step). next_pc_of x) steps

start_row : registers product (history product 0) ≡ 0 ∷ 64 ∷ 0 ∷ []
start_row = refl

product_row : registers product (history product 3) ≡ 5 ∷ 7 ∷ 35 ∷ []
unfolding selection step_of
product_row = refl

product_nexts : nexts (history product 3) ≡ 12 ∷ 8 ∷ 4 ∷ []
unfolding selection step_of
product_nexts = refl

-- addi x1,x0,-2; sw x1,32(x0); lbu x2,33(x0); sb x0,33(x0); lh x3,32(x0); ebreak
abbrev bytes : Loaded
bytes = image_at 0 (0xffe00093 ∷ 0x02102023 ∷ 0x02104103 ∷ 0x020000a3 ∷ 0x02001183 ∷ 0x00100073 ∷ [])

bytes_registers : registers bytes (history bytes 5) ≡ 0xfffffffe ∷ 0xff ∷ 0xfe ∷ []
unfolding selection step_of
bytes_registers = refl

bytes_row : map (λ a. byte_after bytes (history bytes 5) a) (31 ∷ 32 ∷ 33 ∷ 34 ∷ 35 ∷ 36 ∷ 0 ∷ []) ≡ 0 ∷ 0xfe ∷ 0 ∷ 0xff
    ∷ 0xff ∷ 0 ∷ 0x93 ∷ []
unfolding selection step_of
bytes_row = refl

-- beq x0,x0,8; (skipped); jal x1,8; (skipped); jalr x2,21(x0); ebreak
abbrev jumps : Loaded
jumps = image_at 0 (0x00000463 ∷ 0 ∷ 0x008000ef ∷ 0 ∷ 0x01500167 ∷ 0x00100073 ∷ [])

jumps_nexts : nexts (history jumps 3) ≡ 20 ∷ 16 ∷ 8 ∷ []
unfolding selection step_of
jumps_nexts = refl

jumps_row : registers jumps (history jumps 3) ≡ 12 ∷ 20 ∷ 0 ∷ []
unfolding selection step_of
jumps_row = refl
