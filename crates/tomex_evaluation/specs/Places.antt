-- A run that is evaluated, cut into blocks, and two of its places.
use Rattle.std.specs.Prelude.{ℕ, ◌+◌, ◌^◌, ◌<◌, ◌≤◌, ◌≡◌, List, length, map}
use Rattle.std.specs.List.{Contains}
use Rattle.tomex_rvexec.specs.declared.step.Step.{Step}
use Rattle.tomex_config.specs.Configuration.{Configuration, IsWithinLimits}
use Rattle.tomex_timing.specs.Recent.{AreFacts, facts_of}
use Rattle.tomex_alike.specs.Alike.{LooksLike}
use Rattle.tomex_alike.specs.Laws.{first_issue_at, history_to}
use Rattle.tomex_repeats.specs.Blocks.{AreBlocks, Blocks}
use Rattle.tomex_repeats.specs.declared.blocks.Block.{Block}

-- a machine within its limits, and the steps of a run with its blocks
pub record IsCut (config : Configuration) (steps : List Step) (run : Blocks) : Type 0 where
  pub limits : IsWithinLimits config
  pub facts : AreFacts steps (map facts_of steps)
  pub few : length steps < 2 ^ 28
  pub blocks : AreBlocks (map facts_of steps) run

-- to its next step the run looks at place i as it did at place p
abbrev pub IsBack : Configuration → List Step → (p i : ℕ) → Type 0
IsBack config steps p i = LooksLike config 4 (history_to config steps p) (history_to config steps i)

-- Before place i the run went through a block with this number. It looked as at place p before the block and as at
-- place q after it, and the first cycle in which the next step may issue was `passed` cycles later.
pub record WentThrough (config : Configuration) (steps : List Step) (run : Blocks) (i p number q passed : ℕ)
    : Type 0 where
  pub block : Block
  pub there : Contains run.blocks block
  pub numbered : block.number ≡ number
  pub ended : block.end ≤ i
  pub before : IsBack config steps p block.first
  pub after : IsBack config steps q block.end
  pub later : first_issue_at config steps block.end ≡ first_issue_at config steps block.first + passed
