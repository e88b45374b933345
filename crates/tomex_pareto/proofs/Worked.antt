-- Hulls of some fronts, computed by the definition itself.
use Rattle.std.proofs.Common.{◌≡◌, refl, ℕ, [], ◌∷◌}
use Rattle.tomex_pareto.specs.declared.front_row.FrontRow.{FrontRow}
use Rattle.tomex_pareto.specs.Hull.{hull_of}

abbrev row : ℕ → ℕ → ℕ → FrontRow
row n cost cycles = record { row = n; cost = cost; cycles = cycles }

-- from 6 to 0 it is 1 cycle for 15, from 0 to 4 it is 2 for 10
left_out : hull_of (row 2 50 13 ∷ row 6 60 11 ∷ row 0 75 10 ∷ row 4 85 8 ∷ [])
    ≡ row 2 50 13 ∷ row 6 60 11 ∷ row 4 85 8 ∷ []
unfolding hull_of
left_out = refl

-- a row on a line stays, one that takes a cycle more is above it
on_a_line : hull_of (row 0 10 30 ∷ row 1 20 20 ∷ row 2 30 10 ∷ []) ≡ row 0 10 30 ∷ row 1 20 20 ∷ row 2 30 10 ∷ []
unfolding hull_of
on_a_line = refl

above_a_line : hull_of (row 0 10 30 ∷ row 1 20 21 ∷ row 2 30 10 ∷ []) ≡ row 0 10 30 ∷ row 2 30 10 ∷ []
unfolding hull_of
above_a_line = refl

-- equal rows stay together, at an end too
equal : hull_of (row 0 10 30 ∷ row 5 10 30 ∷ row 1 20 15 ∷ row 7 20 15 ∷ row 2 30 10 ∷ [])
    ≡ row 0 10 30 ∷ row 5 10 30 ∷ row 1 20 15 ∷ row 7 20 15 ∷ row 2 30 10 ∷ []
unfolding hull_of
equal = refl

-- neither of two neighbours is above the line of the other and an end; both are above that of the ends
between_the_ends : hull_of (row 0 0 100 ∷ row 1 40 70 ∷ row 2 60 60 ∷ row 3 100 0 ∷ []) ≡ row 0 0 100 ∷ row 3 100 0 ∷ []
unfolding hull_of
between_the_ends = refl

alone : hull_of (row 3 0 0 ∷ []) ≡ row 3 0 0 ∷ []
unfolding hull_of
alone = refl
