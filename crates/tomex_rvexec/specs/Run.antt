-- Whole runs.
use Rattle.std.specs.Prelude.{◌≡◌, ℕ, zero, suc, ◌+◌, ◌<◌, ◌/◌, ◌*◌, ◌%◌, ◌^◌, replicate, slice_set, Result, Ok, Err, ⊤}
use Rattle.tomex_image.specs.Image.{Loaded}
use Rattle.tomex_image.specs.Window.{Span}
use Rattle.tomex_rvexec.specs.declared.outcome.EndKind.{EndKind}
use Rattle.tomex_rvexec.specs.declared.outcome.FaultKind.{FaultKind}
use Rattle.tomex_rvexec.specs.declared.outcome.Fault.{Fault}
use Rattle.tomex_rvexec.specs.declared.outcome.Stepped.{Stepped}
use Rattle.tomex_rvexec.specs.declared.outcome.Stepped.TheVariants.{Next, Ended}
use Rattle.tomex_rvexec.specs.declared.end.End.{End}
use Rattle.tomex_rvexec.specs.declared.end.RunError.{RunError}
use Rattle.tomex_rvexec.specs.declared.end.RunError.TheVariants as errors
use Rattle.tomex_rvexec.specs.Machine.{State, Outcome, Goes, Ends, Faults, step_of}

-- the most steps that a study lets a program take
abbrev pub most_steps : ℕ
most_steps = 262144

-- the stack pointer before the first step: the end of memory, rounded down to a multiple of 16
abbrev pub initial_sp : Span → ℕ
initial_sp window = (window.base + window.size) / 16 * 16 % 2 ^ 32

-- before the first step: all registers zero except the stack pointer
abbrev pub start_of : Loaded → State
start_of i = record {
  image = i;
  pc = i.entry;
  regs = slice_set (replicate 32 0) 2 (initial_sp i.window);
  memory = i.memory;
}

-- n steps lead from old to new
abbrev pub Leads : State → ℕ → State → Type 0
Leads old zero new = new ≡ old
Leads old (suc n) new = (mid : State) × Leads old n mid × (step_of mid ≡ Goes new)

-- what a step returns, and the state that it leaves
abbrev pub Answers : Outcome → State → Result Stepped Fault → State → Type 0
Answers (Goes s) old answer new = (answer ≡ Ok Next) × (new ≡ s)
Answers (Ends k) old answer new = (answer ≡ Ok (Ended k)) × (new ≡ old)
Answers (Faults k) old answer new = (answer ≡ Err (record { kind = k; pc = old.pc })) × (new ≡ old)

-- the step after k others ends the run, in state s
pub record RunEnds (i : Loaded) (k : ℕ) (s : State) (kind : EndKind) : Type 0 where
  pub leads : Leads (start_of i) k s
  pub ends : step_of s ≡ Ends kind

pub record RunFaults (i : Loaded) (k : ℕ) (s : State) (kind : FaultKind) : Type 0 where
  pub leads : Leads (start_of i) k s
  pub faults : step_of s ≡ Faults kind

-- the run ends within the limit, and this is its end
abbrev pub IsEnd : {A : Type 0} → Loaded → ℕ → End A → Type 0
IsEnd i limit e = (k : ℕ) × (s : State) × (k < limit) × RunEnds i k s e.kind
    × (e.steps ≡ k + 1) × (e.pc ≡ s.pc) × (e.regs ≡ s.regs)
    × (e.memory.base ≡ s.image.window.base) × (e.memory.bytes ≡ s.memory)

-- the run has no end within the limit, for this reason
abbrev pub IsRefusal : Loaded → ℕ → RunError → Type 0
IsRefusal i limit (errors.Fault f) = (k : ℕ) × (s : State) × (k < limit) × RunFaults i k s f.kind × (f.pc ≡ s.pc)
IsRefusal i limit errors.TooLong = (s : State) × Leads (start_of i) limit s
IsRefusal i limit errors.Memory = ⊤

-- the run ends within the limit
abbrev pub EndsWithin : Loaded → ℕ → Type 0
EndsWithin i limit = (k : ℕ) × (s : State) × (kind : EndKind) × (k < limit) × RunEnds i k s kind
