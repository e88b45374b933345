-- Histories after which nothing is under way when the next step issues, and runs that begin with one.
use Rattle.std.specs.Prelude.{ℕ, ◌+◌, ◌≡◌, ◌≤◌, true, None, List, [], ◌∷◌, ◌++◌, map}
use Rattle.tomex_rvexec.specs.Steps.{is_branch, step_dest}
use Rattle.tomex_rvexec.specs.declared.step.Step.{Step}
use Rattle.tomex_config.specs.Configuration.{Configuration, IsWithinLimits}
use Rattle.tomex_timing.specs.declared.times.Done.{Done}
use Rattle.tomex_timing.specs.History.{greatest_end}
use Rattle.tomex_timing.specs.Issue.{branch_finish, first_issue}
use Rattle.tomex_timing.specs.Recent.{facts_of}
use Rattle.tomex_timing.specs.Recurrence.{AreTimed}
use Rattle.tomex_timing.specs.Search.{history, times_in, total_of}
use Rattle.tomex_alike.specs.Alike.{LooksLike}
use Rattle.tomex_alike.specs.Laws.{later}

-- All has ended when the last branch finishes, and the next step issues later than that. The empty history is drained.
abbrev pub IsDrained : List Done → Type 0
IsDrained h = greatest_end h ≤ branch_finish h

-- the youngest step is a branch without a result, and all that is older has ended when it finishes
abbrev pub EndsInBranch : List Done → Type 0
EndsInBranch [] = ⊥
EndsInBranch (d ∷ older) =
    (is_branch d.step ≡ true) × (step_dest d.step ≡ None) × (greatest_end older ≤ d.at.finish)

-- the cycles that a run of these steps takes
abbrev pub cycles : Configuration → List Step → ℕ
cycles config steps = total_of (times_in config steps)

-- such a branch leaves nothing under way
abbrev pub BranchesDrain : Type 0
BranchesDrain = (config : Configuration) (h : List Done) → AreTimed config h → EndsInBranch h → IsDrained h

-- a drained history looks like the empty one, and the next step may issue in the cycle after its greatest end
abbrev pub DrainedLooksEmpty : Type 0
DrainedLooksEmpty = (config : Configuration) (h : List Done) → IsWithinLimits config → AreTimed config h → IsDrained h
    → LooksLike config 0 [] h × (first_issue config h ≡ greatest_end h + 1)

-- after a drained beginning each step of the rest has the times that it has in a run of the rest, later by the cycles
-- that the beginning takes
abbrev pub RestIsLater : Type 0
RestIsLater = (config : Configuration) (before rest : List Step) → IsWithinLimits config
    → IsDrained (history config before)
    → times_in config (before ++ rest)
    ≡ times_in config before ++ map (later (cycles config before)) (times_in config rest)

-- so the run takes the cycles of both
abbrev pub CyclesAddUp : Type 0
CyclesAddUp = (config : Configuration) (before rest : List Step) → IsWithinLimits config
    → IsDrained (history config before)
    → cycles config (before ++ rest) ≡ cycles config before + cycles config rest

-- steps with the same facts have the same times: pcs, values and the rest of an instruction don't matter
abbrev pub FactsDecideTimes : Type 0
FactsDecideTimes = (config : Configuration) (xs ys : List Step) → IsWithinLimits config
    → map facts_of xs ≡ map facts_of ys → times_in config xs ≡ times_in config ys
