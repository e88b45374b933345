-- The function and the calls are looked up.
use Rattle.std.proofs.Common.{◌∙◌, ap, ap₂, ℕ, Option}
use Rattle.tomex_symbols.specs.declared.symbol.Symbol.{Symbol}
use Rattle.tomex_functions.specs.Calls.{calls_in, calls_of}
use Rattle.tomex_functions.specs.Functions.{key_of}
use Rattle.tomex_functions.proofs.rows.row_of.Goals as goal

pub returns : goal.returns
returns g c = λ symbols steps is calls has.
    let function = c.function_at-function.ensures symbols steps is has in
    let count = c.of.ensures
    ∙ (calls.by_key c.key_of.result
    ∙ ap (λ (k : ℕ). calls_of symbols k (calls_in symbols steps)) (c.key_of.ensures ∙ ap key_of function)) in
    ap₂ (λ (f : Option Symbol) (n : ℕ). record { function = f; calls = n; sum = c.args.group.now.sum }) function count
