-- A run as the history of its steps, and the values that a history leaves: each register has the
-- result of the youngest step that writes it, each byte of memory what the youngest store on it left.
use Rattle.std.specs.Prelude.{◌≡◌, ℕ, zero, suc, ◌+◌, ◌-◌, ◌<◌, ◌≤◌, ⊤, IsTrue, List}
use Rattle.std.specs.Prelude.{[], ◌∷◌, Option, Some, if◌then◌else◌, length, slice_index}
use Rattle.tomex_image.specs.Image.{Loaded}
use Rattle.tomex_rvdec.specs.Meaning.{meaning}
use Rattle.tomex_rvexec.specs.declared.step.Step.{Step}
use Rattle.tomex_rvexec.specs.Flow.{IsAllowed, memory_of}
use Rattle.tomex_rvexec.specs.Results.{byte_in, next_pc_of, overwrites, result_of, stored_byte}
use Rattle.tomex_rvexec.specs.Machine.{State, Outcome, Goes, Ends, Faults, step_of, coming_of}
use Rattle.tomex_rvexec.specs.Memory.{is_inside, word_read}
use Rattle.tomex_rvexec.specs.Run.{start_of}
use Rattle.tomex_rvexec.specs.Steps.{step_dest, is_number}
use Rattle.tomex_rvexec.specs.Trace.{onto}

-- a step that ends or faults leaves the state as it was
abbrev pub next_state : Outcome → State → State
next_state (Goes t) s = t
next_state (Ends kind) s = s
next_state (Faults kind) s = s

-- the state after k steps of a run
abbrev pub state_after : Loaded → ℕ → State
state_after i zero = start_of i
state_after i (suc k) = next_state (step_of (state_after i k)) (state_after i k)

-- the step after k others; none if fetching or decoding faults
abbrev pub step_after : Loaded → ℕ → Option Step
step_after i k = coming_of (state_after i k)

-- the first steps of a run, the youngest first
abbrev pub history : Loaded → ℕ → List Step
history i zero = []
history i (suc k) = onto (step_after i k) (history i k)

-- the byte of memory at an address after these steps: the youngest store on it left it, or it is the image's
abbrev pub byte_after : Loaded → List Step → ℕ → ℕ
byte_after i [] a = byte_in (record { base = i.window.base; bytes = i.memory }) a
byte_after i (x ∷ older) a = if overwrites x a then stored_byte x a else byte_after i older a

-- the value of a register after these steps: the result of the youngest that writes it, or the start's
abbrev pub register_after : Loaded → List Step → ℕ → ℕ
register_after i [] r = slice_index (start_of i).regs r
register_after i (x ∷ older) r =
    if is_number (step_dest x) r then result_of x (byte_after i older) else register_after i older r

-- the pc after these steps: what follows the youngest, or the entry
abbrev pub pc_after : Loaded → List Step → ℕ
pc_after i [] = i.entry
pc_after i (x ∷ older) = next_pc_of x

-- these steps leave the image in the state s
pub record Leaves (i : Loaded) (steps : List Step) (s : State) : Type 0 where
  pub image : s.image ≡ i
  pub pc : s.pc ≡ pc_after i steps
  pub registers : (r : ℕ) → r < 32 → slice_index s.regs r ≡ register_after i steps r
  pub bytes : (a : ℕ) → i.window.base ≤ a → byte_in (memory_of s) a ≡ byte_after i steps a

-- these are the bytes of memory after these steps
pub record HasBytesAfter (i : Loaded) (steps : List Step) (bytes : List ℕ) : Type 0 where
  pub count : length bytes ≡ i.window.size
  pub each : (a : ℕ) → i.window.base ≤ a → a < i.window.base + i.window.size
      → byte_in (record { base = i.window.base; bytes = bytes }) a ≡ byte_after i steps a

-- the step x comes after these: it is the instruction of the image's word at the pc, and each of its
-- operands is the result of the youngest older step that writes the register
pub record Follows (i : Loaded) (older : List Step) (x : Step) : Type 0 where
  pub pc : x.pc ≡ pc_after i older
  pub fetch : IsTrue (is_inside i.window.base i.window.size x.pc 4)
  pub instr : meaning (word_read i.memory (x.pc - i.window.base)) ≡ Some x.instr
  pub vj : x.vj ≡ register_after i older x.instr.rs1
  pub vk : x.vk ≡ register_after i older x.instr.rs2

-- each of these steps, the youngest first, follows those older than it, and the program continues after it
abbrev pub IsFlow : Loaded → List Step → Type 0
IsFlow i [] = ⊤
IsFlow i (x ∷ older) = Follows i older x × IsAllowed i x × IsFlow i older
