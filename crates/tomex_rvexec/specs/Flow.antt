-- The changes that a step makes to the machine's pc, registers and memory. Each step of a run has the values of the
-- results before it.
use Rattle.std.specs.Prelude.{◌≡◌, ℕ, ◌+◌, ◌%◌, ◌^◌, ◌<◌, ◌≤◌, false, if◌then◌else◌, Option, Some, None, IfSome}
use Rattle.std.specs.Prelude.{length, slice_index}
use Rattle.tomex_image.specs.Image.{Loaded}
use Rattle.tomex_rvdec.specs.declared.op.Op.{Op}
use Rattle.tomex_rvdec.specs.declared.op.Op.TheVariants.{Ecall, Ebreak}
use Rattle.tomex_rvexec.specs.declared.outcome.EndKind.{EndKind}
use Rattle.tomex_rvexec.specs.declared.outcome.EndKind.TheVariants as ends
use Rattle.tomex_rvexec.specs.Machine.{State, base_of}
use Rattle.tomex_rvexec.specs.declared.step.Step.{Step}
use Rattle.tomex_rvexec.specs.Memory.{Bytes}
use Rattle.tomex_rvexec.specs.Results.{byte_in, next_pc_of, overwrites, result_of, stored_byte}
use Rattle.tomex_rvexec.specs.Steps.{bytes_of, is_number, is_store, step_dest}

abbrev pub memory_of : State → Bytes
memory_of s = record { base = base_of s; bytes = s.memory }

-- the kind of end that a step makes, if any
abbrev pub end_at : Op → Option EndKind
end_at Ecall = Some ends.Ecall
end_at Ebreak = Some ends.Ebreak
end_at _ = None

abbrev pub end_of : Step → Option EndKind
end_of x = end_at x.instr.op

-- what holds for the machine at every step: 32 registers, x0 zero, the pc a multiple of 4, and a byte of memory for
-- each byte of the window
pub record IsState (s : State) : Type 0 where
  pub registers : length s.regs ≡ 32
  pub zero : slice_index s.regs 0 ≡ 0
  pub aligned : s.pc % 4 ≡ 0
  pub filled : length s.memory ≡ s.image.window.size

-- the pc and the registers are words of 32 bits, and the memory's bytes are bytes
pub record HasWords (s : State) : Type 0 where
  pub pc : s.pc < 2 ^ 32
  pub registers : (r : ℕ) → slice_index s.regs r < 2 ^ 32
  pub bytes : (k : ℕ) → slice_index s.memory k < 256

-- what the step x, which goes from s to t, changes: the pc, its destination and the bytes of its store
pub record Changes (s : State) (x : Step) (t : State) : Type 0 where
  pub image : t.image ≡ s.image
  pub pc : t.pc ≡ next_pc_of x
  pub registers : (r : ℕ) → r < 32 → slice_index t.regs r
      ≡ (if is_number (step_dest x) r then result_of x (byte_in (memory_of s)) else slice_index s.regs r)
  pub bytes : (a : ℕ) → base_of s ≤ a → byte_in (memory_of t) a
      ≡ (if overwrites x a then stored_byte x a else byte_in (memory_of s) a)
  pub memory : is_store x ≡ false → t.memory ≡ s.memory

-- what a step that continues needs of its image: its target is a multiple of 4, the bytes of its access lie in the
-- window, and it doesn't end the program
pub record IsAllowed (i : Loaded) (x : Step) : Type 0 where
  pub target : next_pc_of x % 4 ≡ 0
  pub access : IfSome (bytes_of x) (λ b. (i.window.base ≤ b.from) × (b.to ≤ i.window.base + i.window.size))
  pub on : end_of x ≡ None
