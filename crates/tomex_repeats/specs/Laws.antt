-- A law on blocks of one number: after histories that look alike they are the same steps.
use Rattle.std.specs.Prelude.{ℕ, ◌-◌, ◌<◌, ◌≡◌, List, map, reverse, slice_range, take}
use Rattle.std.specs.List.{Contains}
use Rattle.tomex_rvexec.specs.declared.step.Step.{Step}
use Rattle.tomex_config.specs.Configuration.{Configuration}
use Rattle.tomex_timing.specs.Recent.{AreFacts}
use Rattle.tomex_timing.specs.declared.recent.Facts.{Facts}
use Rattle.tomex_timing.specs.declared.times.Done.{Done}
use Rattle.tomex_alike.specs.Alike.{LooksLike}
use Rattle.tomex_alike.specs.Laws.{AreSameSteps, ComesBack, history_to}
use Rattle.tomex_repeats.specs.declared.blocks.Block.{Block}
use Rattle.tomex_repeats.specs.Blocks.{AreBlocks, Blocks}

-- The steps of a history, the youngest first, are those before a place.
pub record LeadsTo (steps : List Step) (p : ℕ) (h : List Done) : Type 0 where
  pub are : map (λ d. d.step) h ≡ reverse (take p steps)

-- Blocks of one number have the same steps to the recurrence, after any histories of the steps before them: equal
-- pools, destinations and operands, and the same conflicts with the accesses since the fourth before the block.
abbrev pub BlocksAreTheSame : Type 0
BlocksAreTheSame = (config : Configuration) (steps : List Step) (facts : List Facts) (run : Blocks) (g h : List Done)
    (a b : Block) → AreFacts steps facts → AreBlocks facts run → Contains run.blocks a → Contains run.blocks b
    → a.number ≡ b.number → LeadsTo steps a.first g → LeadsTo steps b.first h
    → AreSameSteps config 4 g h (slice_range steps a.first a.end) (slice_range steps b.first b.end)

-- So a run that is in states that look alike before two such blocks comes back: tomex_alike says what follows.
abbrev pub BlocksComeBack : Type 0
BlocksComeBack = (config : Configuration) (steps : List Step) (facts : List Facts) (run : Blocks) (a b : Block)
    → AreFacts steps facts → AreBlocks facts run → Contains run.blocks a → Contains run.blocks b → a.number ≡ b.number
    → a.first < b.first → LooksLike config 4 (history_to config steps a.first) (history_to config steps b.first)
    → ComesBack config 4 steps a.first b.first (a.end - a.first)
