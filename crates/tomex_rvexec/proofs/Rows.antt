-- Worked rows.
use Rattle.std.proofs.Common.{ℕ, ◌≡◌, ◌+◌, ◌++◌, refl, List, [], ◌∷◌}
use Rattle.std.specs.Prelude.{replicate, slice_index, length, map}
use Rattle.tomex_rvdec.specs.declared.op.Op.TheVariants.{Div, Rem, Mulhsu, Mulhu, Mulh, Sra, Sll, Slt, Sub}
use Rattle.tomex_rvexec.specs.Words.{alu_of, muldiv_of}
use Rattle.tomex_image.specs.Image.{Loaded}
use Rattle.tomex_rvdec.specs.Meaning.{selection}
use Rattle.tomex_rvexec.specs.declared.step.Step.{Step}
use Rattle.tomex_rvexec.specs.declared.outcome.EndKind.{EndKind}
use Rattle.tomex_rvexec.specs.declared.outcome.FaultKind.{FaultKind}
use Rattle.tomex_rvexec.specs.declared.outcome.EndKind.TheVariants as ends
use Rattle.tomex_rvexec.specs.declared.outcome.FaultKind.TheVariants.{Fetch, MisalignedTarget, Access}
use Rattle.tomex_rvexec.specs.Machine.{State, Outcome, Goes, Ends, Faults, step_of}
use Rattle.tomex_rvexec.specs.Run.{start_of}
use Rattle.tomex_rvexec.specs.Trace.{steps_from}
use Rattle.std.specs.Prelude.{◌-◌, ◌/◌, ◌%◌, zero, suc}

abbrev pub bytes_of : ℕ → List ℕ
bytes_of w = w % 256 ∷ w / 256 % 256 ∷ w / 65536 % 256 ∷ w / 16777216 ∷ []

abbrev pub joined : List ℕ → List ℕ
joined [] = []
joined (w ∷ ws) = bytes_of w ++ joined ws

-- a window of 64 bytes
abbrev pub image_at : ℕ → List ℕ → Loaded
image_at base ws = record {
  window = record { base = base; size = 64 };
  memory = joined ws ++ replicate (64 - length (joined ws)) 0;
  entry = base;
}

pub data Kind : Type 0 where
  ended : EndKind → Kind
  faulted : FaultKind → Kind
  going : Kind

pub record Last : Type 0 where
  pub kind : Kind
  pub pc : ℕ
  pub steps : ℕ
  pub x1 : ℕ
  pub x2 : ℕ
  pub x3 : ℕ
  pub m8 : ℕ

abbrev pub last_of : Kind → ℕ → State → Last
last_of k n s = record {
  kind = k;
  pc = s.pc;
  steps = n;
  x1 = slice_index s.regs 1;
  x2 = slice_index s.regs 2;
  x3 = slice_index s.regs 3;
  m8 = slice_index s.memory 8;
}

abbrev pub on : Outcome → ℕ → State → (State → Last) → Last
on (Goes t) n s next = next t
on (Ends k) n s next = last_of (ended k) (n + 1) s
on (Faults k) n s next = last_of (faulted k) (n + 1) s

abbrev pub run_of : ℕ → ℕ → State → Last
run_of zero n s = last_of going n s
run_of (suc limit) n s = on (step_of s) n s (run_of limit (n + 1))

abbrev pub seen : Kind → ℕ → ℕ → ℕ → ℕ → ℕ → ℕ → Last
seen k pc n a b c m = record { kind = k; pc = pc; steps = n; x1 = a; x2 = b; x3 = c; m8 = m }

pub row1 : run_of 4 0 (start_of (image_at 0 (0x00500093 ∷ 0x00700113 ∷ 0x022081b3 ∷ 0x00100073 ∷ [])))
    ≡ seen (ended ends.Ebreak) 12 4 5 7 35 0xb3
unfolding selection step_of
row1 = refl

pub row1_long : run_of 3 0 (start_of (image_at 0 (0x00500093 ∷ 0x00700113 ∷ 0x022081b3 ∷ 0x00100073 ∷ [])))
    ≡ seen going 12 3 5 7 35 0xb3
unfolding selection step_of
row1_long = refl

-- beq x0,x0,2
pub row11a : run_of 9 0 (start_of (image_at 0 (0x00000163 ∷ []))) ≡ seen (faulted MisalignedTarget) 0 1 0 64 0 0
unfolding selection step_of
row11a = refl

pub row11b : run_of 9 0 (start_of (image_at 0 (0x00001163 ∷ 0x00100073 ∷ []))) ≡ seen (ended ends.Ebreak) 4 2 0 64 0 0
unfolding selection step_of
row11b = refl

-- sw x0,8(x0); addi x1,x0,1; addi x3,x0,9; ebreak
pub row12 : run_of 9 0 (start_of (image_at 0 (0x00002423 ∷ 0x00100093 ∷ 0x00900193 ∷ 0x00100073 ∷ [])))
    ≡ seen (ended ends.Ebreak) 12 4 1 64 9 0
unfolding selection step_of
row12 = refl

-- lw x1,-2(x0) and lw x0,-2(x0) at the top of the addresses; lw x1,-4(x0)
pub top : run_of 9 0 (start_of (image_at 4294967232 (0xffe02083 ∷ 0x00100073 ∷ []))) ≡ seen (faulted Access) 4294967232
    1 0 0 0 0
unfolding selection step_of
top = refl

pub top0 : run_of 9 0 (start_of (image_at 4294967232 (0xffe02003 ∷ 0x00100073 ∷ []))) ≡ seen (faulted Access) 4294967232
    1 0 0 0 0
unfolding selection step_of
top0 = refl

pub top4 : run_of 9 0 (start_of (image_at 4294967232 (0xffc02083 ∷ 0x00100073 ∷ []))) ≡ seen (ended ends.Ebreak)
    4294967236 2 0 0 0 0
unfolding selection step_of
top4 = refl

-- jalr x0,7(x0): 6 isn't a multiple of 4; jalr x1,5(x0) goes to 4; jal x0,-4 leaves memory
pub jalr7 : run_of 9 0 (start_of (image_at 0 (0x00700067 ∷ []))) ≡ seen (faulted MisalignedTarget) 0 1 0 64 0 0
unfolding selection step_of
jalr7 = refl

pub jalr5 : run_of 9 0 (start_of (image_at 0 (0x005000e7 ∷ 0x00100073 ∷ []))) ≡ seen (ended ends.Ebreak) 4 2 4 64 0 0
unfolding selection step_of
jalr5 = refl

pub away : run_of 9 0 (start_of (image_at 0 (0xffdff06f ∷ []))) ≡ seen (faulted Fetch) 4294967292 2 0 64 0 0
unfolding selection step_of
away = refl

-- the steps of a run that is too long, and of one that faults
abbrev pub pcs : List Step → List ℕ
pcs steps = map (λ (x : Step). x.pc) steps

pub long : pcs (steps_from 3 (start_of (image_at 0 (0x0000006f ∷ [])))) ≡ 0 ∷ 0 ∷ 0 ∷ []
unfolding selection step_of
long = refl

pub faulty : pcs (steps_from 3 (start_of (image_at 0 (0x00100093 ∷ 0x00000163 ∷ [])))) ≡ 0 ∷ 4 ∷ []
unfolding selection step_of
faulty = refl

pub div0 : muldiv_of Div 7 0 ≡ 0xffffffff
div0 = refl

pub rem0 : muldiv_of Rem 7 0 ≡ 7
rem0 = refl

pub divo : muldiv_of Div 0x80000000 0xffffffff ≡ 0x80000000
divo = refl

pub remo : muldiv_of Rem 0x80000000 0xffffffff ≡ 0
remo = refl

pub divn : muldiv_of Div 0xfffffff9 2 ≡ 0xfffffffd
divn = refl

pub remn : muldiv_of Rem 0xfffffff9 2 ≡ 0xffffffff
remn = refl

pub divp : muldiv_of Div 7 0xfffffffe ≡ 0xfffffffd
divp = refl

pub remp : muldiv_of Rem 7 0xfffffffe ≡ 1
remp = refl

pub mhsu : muldiv_of Mulhsu 0xffffffff 0xffffffff ≡ 0xffffffff
mhsu = refl

pub mhu : muldiv_of Mulhu 0xffffffff 0xffffffff ≡ 0xfffffffe
mhu = refl

pub mh : muldiv_of Mulh 0xffffffff 0xffffffff ≡ 0
mh = refl

pub sra : alu_of Sra 0x80000000 33 ≡ 0xc0000000
sra = refl

pub sll : alu_of Sll 1 63 ≡ 0x80000000
sll = refl

pub slt : alu_of Slt 0xffffffff 0 ≡ 1
slt = refl

pub sub : alu_of Sub 0 1 ≡ 0xffffffff
sub = refl
