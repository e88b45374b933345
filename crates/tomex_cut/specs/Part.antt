-- A part of a run: its steps, the words that they use, and where it ends.
use Rattle.std.specs.Prelude.{ℕ, zero, suc, ◌+◌, ◌-◌, ◌==◌, ◌||◌, Bool, not, if◌then◌else◌, List}
use Rattle.std.specs.Prelude.{Option, Some, None, Result, Ok, Err}
use Rattle.std.specs.List.{list_any}
use Rattle.tomex_image.specs.Image.{Loaded}
use Rattle.tomex_cut.specs.declared.error.CutError.{CutError}
use Rattle.tomex_cut.specs.declared.error.CutError.TheVariants as errors
use Rattle.tomex_cut.specs.After.{after}
use Rattle.tomex_rvexec.specs.declared.outcome.FaultKind.TheVariants as faults
use Rattle.tomex_rvexec.specs.declared.step.Step.{Step}
use Rattle.tomex_rvexec.specs.declared.step.ByteRange.{ByteRange}
use Rattle.tomex_rvexec.specs.Fetch.{word_at}
use Rattle.tomex_rvexec.specs.Machine.{State, base_of, holds}
use Rattle.tomex_rvexec.specs.Memory.{word_read}
use Rattle.tomex_rvexec.specs.Results.{is_among}
use Rattle.tomex_rvexec.specs.Run.{most_steps, start_of}
use Rattle.tomex_rvexec.specs.Steps.{bytes_of, shares_byte}
use Rattle.tomex_rvexec.specs.Trace.{steps_from}

-- the bytes of the word at an address
abbrev pub word_bytes : ℕ → Option ByteRange
word_bytes a = Some (record { from = a; to = a + 4 })

-- a step uses the word at an address: its pc lies in it, or it reads or writes a byte of it
abbrev pub uses : ℕ → Step → Bool
uses a x = is_among (word_bytes a) x.pc || shares_byte (bytes_of x) (word_bytes a)

abbrev pub is_used : List Step → ℕ → Bool
is_used steps a = list_any (uses a) steps

-- what there is after some steps of a part: neither its end nor a fault; its end, which is the run's own (None) or lies
-- before the word at an address; or a fault
pub data Verdict : Type 0 where
  GoesOn : Verdict
  Ends : Option ℕ → Verdict
  Fails : CutError → Verdict

-- a part can end before the next pc, if that is new: no step of the part uses its word. It must lie in memory
abbrev pub verdict_at : State → List Step → Verdict
verdict_at t steps =
    if holds t t.pc 4
    then (if is_used steps t.pc then GoesOn else Ends (Some t.pc))
    else Fails (errors.Fault (record { kind = faults.Fetch; pc = t.pc }))

-- there is no step after the one that ends the run
abbrev pub verdict_on : Result State CutError → List Step → Verdict
verdict_on (Ok t) steps = verdict_at t steps
verdict_on (Err errors.NoSuchStep) steps = Ends None
verdict_on (Err e) steps = Fails e

-- what there is after n steps of a part that begins in state s
abbrev pub verdict : State → ℕ → Verdict
verdict s n = verdict_on (after s n) (steps_from n s)

-- a part: the state before it, its steps, and the address of its end, unless the run itself ends there
pub record Part : Type 0 where
  pub start : State
  pub steps : List Step
  pub end : Option ℕ

-- the part of n steps by what there is after them, and what comes next if that is nothing
abbrev pub part_by : Verdict → State → ℕ → (ℕ → Result Part CutError) → Result Part CutError
part_by GoesOn s n next = next (n + 1)
part_by (Ends end) s n next = Ok (record { start = s; steps = steps_from n s; end = end })
part_by (Fails e) s n next = Err e

-- the part that begins in state s and ends at its first end from step number n on; this and those after it, as many in
-- all, are looked at
abbrev pub part_from : State → ℕ → ℕ → Result Part CutError
part_from s zero n = Err errors.NoEnd
part_from s (suc more) n = part_by (verdict s n) s n (part_from s more)

-- the steps of the prologue
abbrev pub prologue_steps : ℕ
prologue_steps = 64

-- the most steps of a part: with the prologue before it and an EBREAK after it, a program takes no more than it may
abbrev pub most_part : ℕ
most_part = most_steps - prologue_steps - 1

-- the part of at least this number of steps that begins in a state; it has fewer only if the run ends
abbrev pub part_at : Result State CutError → ℕ → Result Part CutError
part_at (Ok s) least = part_from s (most_part + 1 - least) least
part_at (Err e) least = Err e

-- the part of an image's run that begins with step `from`, the first being 1, and has at least `least` steps
abbrev pub part_of : Loaded → ℕ → ℕ → Result Part CutError
part_of i from least = part_at (after (start_of i) (from - 1)) least

-- the word at a step's pc isn't the image's: before the part, a store changed it
abbrev pub is_changed : State → Step → Bool
is_changed s x = not (word_read s.memory (x.pc - base_of s) == word_at s.image x.pc)

abbrev pub is_overwritten : Part → Bool
is_overwritten p = list_any (is_changed p.start) p.steps
