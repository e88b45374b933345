-- Laws of the table of a run's loops.
use Rattle.std.specs.Prelude.{ℕ, ◌+◌, ◌≤◌, ◌≡◌, List, sum_by, true}
use Rattle.tomex_rvdec.specs.declared.pool.UnitId.{UnitId}
use Rattle.tomex_rvexec.specs.declared.step.Step.{Step}
use Rattle.tomex_config.specs.Configuration.{Configuration, IsWithinLimits, latency_of}
use Rattle.tomex_floor.specs.Floor.{floor_of}
use Rattle.tomex_loop_views.specs.declared.row.LoopSums.{LoopSums}
use Rattle.tomex_path.specs.Laws.{is_free}
use Rattle.tomex_loop_views.specs.LoopsReport.{AreLines, IsLine, IsOutside, IsTotal, path_in}
use Rattle.tomex_loop_views.specs.Table.{Line, RestLine}

-- Whatever parts a machine has: if it is no wider and has no shorter latency, each loop takes at least its floor.
abbrev pub NoMachineSavesMore : Type 0
NoMachineSavesMore = (config other : Configuration) (file : List ℕ) (steps : List Step) (n : ℕ) (line others : Line)
    → IsLine file config steps n line → IsLine file other steps n others → IsWithinLimits other
    → other.width ≤ config.width → ((unit : UnitId) → latency_of config unit ≤ latency_of other unit)
    → line.sums.floor ≤ others.sums.own

-- All floors together are no more than the run's floor.
abbrev pub FloorsAreWithinTheRuns : Type 0
FloorsAreWithinTheRuns = (config : Configuration) (steps : List Step) (total : RestLine) → IsWithinLimits config
    → IsTotal config steps total → total.sums.floor ≤ floor_of (latency_of config) config.width steps

-- A loop's places, the least and the greatest address of its steps among them, and how often it goes round, are the
-- same.
pub record IsSameLoop (a b : LoopSums) : Type 0 where
  pub head : a.head ≡ b.head
  pub extent : a.extent ≡ b.extent
  pub function : a.function ≡ b.function
  pub around : a.around ≡ b.around
  pub entered : a.entered ≡ b.entered
  pub iterations : a.iterations ≡ b.iterations
  pub steps : a.steps ≡ b.steps

-- They are the program's, and not the machine's.
abbrev pub LoopsAreThePrograms : Type 0
LoopsAreThePrograms = (config other : Configuration) (file : List ℕ) (steps : List Step) (n : ℕ) (line others : Line)
    → IsLine file config steps n line → IsLine file other steps n others → IsSameLoop line.sums others.sums

-- The cycles of the loops themselves, and of the steps outside of all loops, add up to the run's; so do the floors.
abbrev pub LoopsAddUp : Type 0
LoopsAddUp = (config : Configuration) (file : List ℕ) (steps : List Step) (lines : List Line)
    (outside total : RestLine) → IsWithinLimits config → AreLines file config steps lines
    → IsOutside config steps outside → IsTotal config steps total
    → (sum_by (λ l. l.sums.own) lines + outside.sums.cycles ≡ total.sums.cycles)
    × (sum_by (λ l. l.sums.floor) lines + outside.sums.floor ≡ total.sums.floor)

-- If no link of a run's path waits for a station, a unit or a bus, no machine that is no wider and has no shorter
-- latency takes fewer cycles in all its loops and outside of them together, whatever parts it has.
abbrev pub FreeRunsAreLeast : Type 0
FreeRunsAreLeast = (config other : Configuration) (steps : List Step) (total others : RestLine)
    → IsWithinLimits config → IsWithinLimits other → IsTotal config steps total → IsTotal other steps others
    → is_free (path_in config steps) ≡ true → other.width ≤ config.width
    → ((unit : UnitId) → latency_of config unit ≤ latency_of other unit) → total.sums.cycles ≤ others.sums.cycles
