-- The functions so far.
use Rattle.std.proofs.Common.{◌≡◌, List, map, take}
use Rattle.tomex_symbols.specs.declared.symbol.Symbol.{Symbol}
use Rattle.tomex_functions.specs.Functions.{function_of}
use Rattle.tomex_functions.specs.Kept.{IsIndexOf}
use Rattle.tomex_functions.proofs.index.Index.functions_of.Given as goal

abbrev pub invariant-loop-step : goal.invariant-loop-step
invariant-loop-step g l = (symbols : List Symbol) → IsIndexOf symbols l.steps l.self
    → l.functions.items ≡ map (function_of symbols) (take l.step-index l.steps)
