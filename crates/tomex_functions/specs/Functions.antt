-- The functions of a run's steps.
use Rattle.std.specs.Prelude.{ℕ, ◌+◌, List, Option, Some, None}
use Rattle.tomex_rvexec.specs.declared.step.Step.{Step}
use Rattle.tomex_symbols.specs.Functions.{function_at}
use Rattle.tomex_symbols.specs.declared.symbol.Symbol.{Symbol}

-- the function of a step, among a file's symbols
abbrev pub function_of : List Symbol → Step → Option Symbol
function_of symbols step = function_at symbols step.pc

-- a number for each function, by its number in the table: 0 is that of steps without one
abbrev pub key_of : Option Symbol → ℕ
key_of None = 0
key_of (Some s) = s.number + 1

abbrev pub function_key : List Symbol → Step → ℕ
function_key symbols step = key_of (function_of symbols step)
