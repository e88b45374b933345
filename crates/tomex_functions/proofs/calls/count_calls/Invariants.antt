-- The calls so far.
use Rattle.std.proofs.Common.{◌≡◌, ℕ, List, length, map, take}
use Rattle.std.specs.Prelude.{unwrap_or}
use Rattle.std.specs.BTreeMap.{get}
use Rattle.std.specs.Ordering.{nat_cmp}
use Rattle.tomex_symbols.specs.declared.symbol.Symbol.{Symbol}
use Rattle.tomex_functions.specs.Calls.{calls_in, calls_of}
use Rattle.tomex_functions.specs.Functions.{function_of}
use Rattle.tomex_functions.proofs.calls.count_calls.Given as goal

abbrev pub invariant-loop-index : goal.invariant-loop-index
invariant-loop-index g l = (symbols : List Symbol) → l.functions ≡ map (function_of symbols) l.steps → record {
  by_key : (k : ℕ) → unwrap_or (get nat_cmp l.calls.by_key k) 0
      ≡ calls_of symbols k (calls_in symbols (take l.index l.steps));
  all : l.calls.all ≡ length (calls_in symbols (take l.index l.steps));
}
