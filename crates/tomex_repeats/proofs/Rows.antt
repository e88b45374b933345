-- Four rounds of a loop, computed by the definitions: with which accesses each step conflicts, and which rounds differ.
use Rattle.std.proofs.Common.{ℕ, ◌≡◌, arith, refl, Bool, true, false, List, [], ◌∷◌, ◌++◌, map}
use Rattle.std.specs.List.{range_with_len}
use Rattle.std.specs.Prelude.{slice_index_or}
use Rattle.tomex_rvdec.specs.declared.op.Op.TheVariants.{Bne, Lw, Sw}
use Rattle.tomex_rvexec.specs.declared.step.Step.{Step}
use Rattle.tomex_timing.specs.Recent.{facts_of}
use Rattle.tomex_timing.specs.declared.recent.Facts.{Facts}
use Rattle.tomex_timing.proofs.Programs.{addi, instr, step}
use Rattle.tomex_repeats.specs.declared.blocks.Block.{Block}
use Rattle.tomex_repeats.specs.Blocks.{AreInARow, conflicts_back, window_at}
use Rattle.tomex_repeats.specs.Masks.{mask_at}

-- lw x2,0(x8); sw x2,0(x8); bne x9,x0 to the load, with x8 = 256
abbrev round : List Step
round = step 0 (instr Lw 2 8 0 0) 256 0 ∷ step 4 (instr Sw 0 8 2 0) 256 0 ∷ step 8 (instr Bne 0 9 0 4294967288) 1 0 ∷ []

abbrev facts : List Facts
facts = map facts_of (round ++ round ++ round ++ round)

abbrev at : ℕ → Facts
at p = slice_index_or facts p (facts_of (addi 0 0 0 0 0))

-- which of the w accesses before a place the step there conflicts with, the youngest first
abbrev seen : (w p : ℕ) → List Bool
seen w p = map (conflicts_back facts p (at p)) (range_with_len 0 w)

-- Two accesses are in each round. A step is compared with four before its round, and with those of its round before it.
windows : map (window_at facts 6) (6 ∷ 7 ∷ 8 ∷ 9 ∷ []) ≡ 4 ∷ 5 ∷ 6 ∷ 6 ∷ []
windows = refl

-- the load of the second round conflicts with the store of the first one; those of the third and the fourth round with
-- two stores
loads : map (seen 4) (0 ∷ 3 ∷ 6 ∷ 9 ∷ []) ≡ (false ∷ false ∷ false ∷ false ∷ []) ∷ (true ∷ false ∷ false ∷ false ∷ [])
    ∷ (true ∷ false ∷ true ∷ false ∷ []) ∷ (true ∷ false ∷ true ∷ false ∷ []) ∷ []
loads = refl

-- a store conflicts with all accesses; a branch with none
stores : map (seen 5) (4 ∷ 7 ∷ 8 ∷ []) ≡ (true ∷ true ∷ true ∷ false ∷ false ∷ [])
    ∷ (true ∷ true ∷ true ∷ true ∷ true ∷ []) ∷ (false ∷ false ∷ false ∷ false ∷ false ∷ []) ∷ []
stores = refl

-- the same as bits
masks : map (λ p. mask_at facts 6 p (at p)) (6 ∷ 7 ∷ 8 ∷ []) ≡ 5 ∷ 31 ∷ 0 ∷ []
masks = refl

-- the blocks of these rounds: the last two are the same
abbrev blocks : List Block
blocks = record { first = 0; end = 3; number = 0 } ∷ record { first = 3; end = 6; number = 1 }
    ∷ record { first = 6; end = 9; number = 2 } ∷ record { first = 9; end = 12; number = 2 } ∷ []

row : AreInARow 0 blocks 12
row = (
  refl,
  omega arith,
  omega arith,
  (
    refl,
    omega arith,
    omega arith,
    (
      refl,
      omega arith,
      omega arith,
      (refl, omega arith, omega arith, refl),
    ),
  ),
)
