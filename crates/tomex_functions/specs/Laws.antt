-- Laws of the stalls reports by function.
use Rattle.std.specs.Prelude.{◌≡◌, ℕ, List, length, sum_by}
use Rattle.tomex_rvexec.specs.declared.step.Step.{Step}
use Rattle.tomex_config.specs.Configuration.{Configuration}
use Rattle.tomex_run_views.specs.ByPlace.{ArePlaces, Visit, visits_at, visits_in, visits_of}
use Rattle.tomex_run_views.specs.Tally.{sum_of}
use Rattle.tomex_run_views.specs.declared.tally.Sum.{Sum}
use Rattle.tomex_symbols.specs.declared.symbol.Symbol.{Symbol}
use Rattle.tomex_functions.specs.ByFunction.{AreRows}
use Rattle.tomex_functions.specs.Calls.{calls_in}
use Rattle.tomex_functions.specs.Functions.{function_key}
use Rattle.tomex_functions.specs.declared.rows.Row.{Row}

-- a column has, of some steps, a number of each of them added up, as its cycles, its waits by a cause, or 1
abbrev pub Sums : (Sum → ℕ) → (Visit → ℕ) → Type 0
Sums column value = (visits : List Visit) → column (sum_of visits) ≡ sum_by value visits

-- the rows of the functions add up, column by column, to what all steps of the run have
abbrev pub RowsAddUp : Type 0
RowsAddUp = (column : Sum → ℕ) (value : Visit → ℕ) (symbols : List Symbol) (calls : List Step) (visits : List Visit)
    (rows : List Row) → Sums column value → AreRows symbols calls visits rows
    → sum_by (λ row. column row.sum) rows ≡ sum_by value visits

-- and their calls to all calls of the run
abbrev pub CallsAddUp : Type 0
CallsAddUp = (symbols : List Symbol) (config : Configuration) (steps : List Step) (rows : List Row)
    → AreRows symbols (calls_in symbols steps) (visits_in config steps) rows
    → sum_by (λ row. row.calls) rows ≡ length (calls_in symbols steps)

-- and what the steps of a function have is the sum over their places
abbrev pub PlacesOfFunctionsAddUp : Type 0
PlacesOfFunctionsAddUp = (value : Visit → ℕ) (symbols : List Symbol) (visits : List Visit) (pcs : List ℕ) (k : ℕ)
    → ArePlaces visits pcs
    → sum_by (λ pc. sum_by value (visits_at pc (visits_of (function_key symbols) k visits))) pcs
    ≡ sum_by value (visits_of (function_key symbols) k visits)
