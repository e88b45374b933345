-- The stalls report by place in the program, with the function of each place.
use Rattle.std.specs.Prelude.{ℕ, List, [], ◌∷◌, codes}
use Rattle.tomex_rvexec.specs.declared.step.Step.{Step}
use Rattle.tomex_config.specs.Configuration.{Configuration}
use Rattle.tomex_run_views.specs.ByPlace.{IsReportWith}
use Rattle.tomex_symbols.specs.declared.symbol.Symbol.{Symbol}
use Rattle.tomex_symbols.specs.Symbols.{symbols_of}
use Rattle.tomex_functions.specs.Functions.{function_of}
use Rattle.tomex_functions.specs.ShownNames.{name_field}

-- the column of the functions, by the symbols of a file
abbrev pub function_columns : List (List ℕ)
function_columns = codes "function" ∷ []

abbrev pub function_fields : List ℕ → List Symbol → Step → List (List ℕ)
function_fields file symbols step = name_field file (function_of symbols step) ∷ []

-- the text is the report of a run's steps on a configuration, by the symbols of a file
abbrev pub IsReportByPlace : List ℕ → Configuration → List Step → List ℕ → Type 0
IsReportByPlace file config steps text =
    IsReportWith function_columns (function_fields file (symbols_of file)) config steps text
