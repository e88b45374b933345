-- The rows of a worker.
use Rattle.std.specs.Prelude.{ℕ, zero, suc, ◌%◌, ◌==◌, if◌then◌else◌, List, [], ◌∷◌, ◌++◌}

-- the rows whose remainder by the number of workers is the worker's number, in ascending order
abbrev pub rows_of : ℕ → ℕ → ℕ → List ℕ
rows_of workers worker zero = []
rows_of workers worker (suc n) = rows_of workers worker n ++ (if (n % workers) == worker then n ∷ [] else [])
