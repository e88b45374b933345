-- The ends of programs on a configuration.
use Rattle.std.specs.Prelude.{◌≡◌, ℕ, ◌-◌, List, length, take, drop}
use Rattle.std.specs.List.{flat_map}
use Rattle.tomex_image.specs.Image.{Loaded}
use Rattle.tomex_rvexec.specs.Machine.{State, Ends, step_of}
use Rattle.tomex_rvexec.specs.History.{state_after}
use Rattle.tomex_rvexec.specs.Run.{most_steps, start_of}
use Rattle.tomex_rvexec.specs.Trace.{steps_from}
use Rattle.tomex_config.specs.Configuration.{Configuration}
use Rattle.tomex_timing.specs.Run.{total}
use Rattle.tomex_study.specs.Program.{Workload}
use Rattle.tomex_study.specs.declared.watch.WatchRange.{WatchRange}
use Rattle.tomex_texts.specs.declared.ends.ProgramEnd.{ProgramEnd}

-- the state in which a program ends: the step that ends it leaves it unchanged, so it is the state after the most
-- steps that a program may make
unfoldable pub last_state : Loaded → State
last_state i = state_after i most_steps

-- the number of its steps, including the one that ends it
unfoldable pub count_of : Loaded → ℕ
count_of i = length (steps_from most_steps (start_of i))

-- the bytes of a range in a memory that begins at base
abbrev pub bytes_at : ℕ → List ℕ → WatchRange → List ℕ
bytes_at base memory range = take range.length (drop (range.address - base) memory)

-- the bytes that a program watches, as it ends, range by range
abbrev pub watched_of : Workload → List ℕ
watched_of p = flat_map (bytes_at p.image.window.base (last_state p.image).memory) p.watch

-- the end of a program on a configuration, with the cycles that its run takes
pub record IsProgramEnd {A : Type 0} (config : Configuration) (p : Workload) (e : ProgramEnd A) : Type 0 where
  pub total : e.total ≡ total config p.image
  pub kind : step_of (last_state p.image) ≡ Ends e.kind
  pub pc : e.pc ≡ (last_state p.image).pc
  pub steps : e.steps ≡ count_of p.image
  pub regs : e.regs ≡ (last_state p.image).regs
  pub watched : e.watched.items ≡ watched_of p
