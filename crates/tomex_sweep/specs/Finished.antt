-- Which of the marked rows are finished.
use Rattle.std.specs.Prelude.{ℕ, suc, List, [], ◌∷◌, ◌++◌}
use Rattle.tomex_board.specs.declared.mark.Mark.{Mark}
use Rattle.tomex_board.specs.declared.mark.Mark.TheVariants.{Finished}
use Rattle.tomex_pareto.specs.declared.front_row.FrontRow.{FrontRow}

-- the row of this number, cost and mark, if it is finished
abbrev pub finished_one : ℕ → ℕ → Mark → List FrontRow
finished_one n c (Finished y) = record { row = n; cost = c; cycles = y } ∷ []
finished_one n c _ = []

-- the finished rows of these costs and marks, numbered from n on
abbrev pub finished_from : ℕ → List ℕ → List Mark → List FrontRow
finished_from n (c ∷ cs) (m ∷ ms) = finished_one n c m ++ finished_from (suc n) cs ms
finished_from n _ _ = []
