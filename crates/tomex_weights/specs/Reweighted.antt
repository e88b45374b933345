-- A study with one program's weight replaced. Weights are in hundredths, so cycles are too.
use Rattle.std.specs.Prelude.{ℕ, zero, suc, ◌*◌, List, [], ◌∷◌, map, slice_index_or}
use Rattle.tomex_study.specs.Cycles.{totals_on}
use Rattle.tomex_study.specs.Program.{Workload}
use Rattle.tomex_study.specs.Study.{DesignSpace, config_at}

-- the programs with the weight q at a place, and all others as they are
abbrev pub with_weight : ℕ → ℕ → List Workload → List Workload
with_weight place q [] = []
with_weight zero q (p ∷ ps) = record p { weight = q } ∷ ps
with_weight (suc place) q (p ∷ ps) = p ∷ with_weight place q ps

-- a program with its weight in hundredths
abbrev pub in_hundredths : Workload → Workload
in_hundredths p = record p { weight = 100 * p.weight }

-- the same rows and costs with the weight q at a place, in whole numbers
abbrev pub with_whole : DesignSpace → ℕ → ℕ → DesignSpace
with_whole s place q = record s { programs = with_weight place q s.programs }

-- and with all weights in hundredths
abbrev pub reweighted : DesignSpace → ℕ → ℕ → DesignSpace
reweighted s place q = record s { programs = with_weight place q (map in_hundredths s.programs) }

-- the stated weight of the program at a place, and its cycles on a row
abbrev pub weight_at : DesignSpace → ℕ → ℕ
weight_at s place = slice_index_or (map (λ p. p.weight) s.programs) place 0

abbrev pub own_cycles : DesignSpace → ℕ → ℕ → ℕ
own_cycles s place row = slice_index_or (totals_on s.programs (config_at s row)) place 0
