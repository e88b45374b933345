-- What the image of a part takes on a machine: a prologue, which takes the same for every part, and the part.
use Rattle.std.specs.Prelude.{ℕ, zero, suc, ◌+◌, ◌≡◌, ◌<◌, ◌≤◌, List, [], ◌∷◌, ◌++◌, Option, Some, None, max}
use Rattle.std.specs.Prelude.{slice_index}
use Rattle.tomex_image.specs.Image.{IsLoaded, Loaded}
use Rattle.tomex_image.specs.Window.{IsWindow}
use Rattle.tomex_rvdec.specs.Instruction.{Instruction}
use Rattle.tomex_rvdec.specs.declared.pool.PoolId.TheVariants as pools
use Rattle.tomex_rvdec.specs.declared.pool.UnitId.TheVariants as units
use Rattle.tomex_rvexec.specs.declared.step.Step.{Step}
use Rattle.tomex_rvexec.specs.Run.{start_of}
use Rattle.tomex_rvexec.specs.Trace.{steps_from}
use Rattle.tomex_config.specs.Configuration.{Configuration, IsWithinLimits, latency_of, option_of, stations_of}
use Rattle.tomex_timing.specs.Issue.{first_issue}
use Rattle.tomex_timing.specs.Run.{total}
use Rattle.tomex_timing.specs.Search.{history, times_in}
use Rattle.tomex_cut.specs.Cut.{IsCut}
use Rattle.tomex_cut.specs.Part.{prologue_steps}
use Rattle.tomex_cut.specs.Prologue.{branch, ebreak, jump, lower, upper}
use Rattle.tomex_drained.specs.Drained.{cycles}

-- the step of an instruction at a pc, with operands of value 0
abbrev pub blank : ℕ → Instruction → Step
blank pc x = record { pc = pc; instr = x; vj = 0; vk = 0 }

-- the two steps that load a register with 0
abbrev pub pair : ℕ → List Step
pair r = blank 0 (upper r 0) ∷ blank 0 (lower r 0) ∷ []

-- those that load x1 to xn
abbrev pub loads : ℕ → List Step
loads zero = []
loads (suc n) = loads n ++ pair (suc n)

-- a jump, the pair of x31, and the branch that waits for it
abbrev pub hook : List Step
hook = blank 0 (jump 0 0) ∷ pair 31 ++ (blank 0 (branch 0 0) ∷ [])

-- a prologue that loads zeros, all of it at pc 0
abbrev pub prologue : List Step
prologue = loads 30 ++ hook

-- the cycles that a prologue takes: a number of the configuration
abbrev pub prologue_cycles : Configuration → ℕ
prologue_cycles config = cycles config prologue

-- two machines are the same to prologues, which use nothing but these parts; prices of units don't matter
pub record AreSameToPrologues (a b : Configuration) : Type 0 where
  pub alu_stations : stations_of a pools.Alu ≡ stations_of b pools.Alu
  pub bru_stations : stations_of a pools.Bru ≡ stations_of b pools.Bru
  pub alu_units : (option_of a units.Alu).units ≡ (option_of b units.Alu).units
  pub bru_units : (option_of a units.Bru).units ≡ (option_of b units.Bru).units
  pub alu_latency : latency_of a units.Alu ≡ latency_of b units.Alu
  pub bru_latency : latency_of a units.Bru ≡ latency_of b units.Bru
  pub buses : a.buses ≡ b.buses
  pub width : a.width ≡ b.width

-- the steps of a part, and the EBREAK at its end if the run itself doesn't end there
abbrev pub and_its_end : Option ℕ → List Step → List Step
and_its_end None steps = steps
and_its_end (Some e) steps = steps ++ (blank e ebreak ∷ [])

-- the file of a part of an image, which is loaded into a window and made of bytes
pub record IsCutOf (i : Loaded) (from least : ℕ) (file : List ℕ) : Type 0 where
  pub window : IsWindow i.window.base i.window.size
  pub loaded : IsLoaded i.window i.memory i.entry
  pub bytes : (k : ℕ) → slice_index i.memory k < 256
  pub cut : IsCut i from least file

-- the image in it
abbrev pub image_of : {i : Loaded} {from least : ℕ} {file : List ℕ} → IsCutOf i from least file → Loaded
image_of {i} c = record { window = i.window; memory = c.cut.memory.bytes; entry = c.cut.place }

-- the first steps of its run
abbrev pub prologue_of : {i : Loaded} {from least : ℕ} {file : List ℕ} → IsCutOf i from least file → List Step
prologue_of c = steps_from prologue_steps (start_of (image_of c))

-- on a configuration the prologues of all parts have the same times
abbrev pub PrologueHasItsTimes : Type 0
PrologueHasItsTimes = (config : Configuration) (i : Loaded) (from least : ℕ) (file : List ℕ) → IsWithinLimits config
    → (c : IsCutOf i from least file) → times_in config (prologue_of c) ≡ times_in config prologue

-- and the same on machines that are the same to prologues
abbrev pub SameMachinesTakeTheSame : Type 0
SameMachinesTakeTheSame = (a b : Configuration) → IsWithinLimits a → IsWithinLimits b → AreSameToPrologues a b
    → times_in a prologue ≡ times_in b prologue

-- the prologue's steps and the part's together take the cycles of a prologue, and those that the part's steps take in a
-- run of their own, which begins on an empty machine
abbrev pub PartAddsItsCycles : Type 0
PartAddsItsCycles = (config : Configuration) (i : Loaded) (from least : ℕ) (file : List ℕ) → IsWithinLimits config
    → (c : IsCutOf i from least file)
    → cycles config (prologue_of c ++ c.cut.part.steps) ≡ prologue_cycles config + cycles config c.cut.part.steps

-- the same of the image's whole run, with the EBREAK at the part's end as a step of the part, if there is one
abbrev pub ImageTakesBoth : Type 0
ImageTakesBoth = (config : Configuration) (i : Loaded) (from least : ℕ) (file : List ℕ) → IsWithinLimits config
    → (c : IsCutOf i from least file)
    → total config (image_of c) ≡ prologue_cycles config + cycles config (and_its_end c.cut.part.end c.cut.part.steps)

-- that EBREAK ends in the first cycle in which it may issue, so it adds a cycle to the part's or none
abbrev pub EndAddsOneAtMost : Type 0
EndAddsOneAtMost = (config : Configuration) (e : ℕ) (steps : List Step) → IsWithinLimits config
    → (cycles config (and_its_end (Some e) steps)
    ≡ max (cycles config steps) (first_issue config (history config steps)))
    × (cycles config (and_its_end (Some e) steps) ≤ cycles config steps + 1)
