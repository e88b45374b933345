-- The symbols are the file's.
use Rattle.std.proofs.Common.{◌∙◌, ap, List, map}
use Rattle.std.proofs.lemmas.Result.{IfOk-weaker}
use Rattle.tomex_symbols.specs.declared.symbol.Symbol.{Symbol}
use Rattle.tomex_symbols.specs.Functions.{function_at}
use Rattle.tomex_loop_views.proofs.places.functions_of.Goals as goal

pub returns : goal.returns
returns g c =
    IfOk-weaker c.functions_at.result _ _ (λ v all. all c.in_ok-symbols.symbols.items c.args.steps.now
    c.in_ok-index.ensures c.requires
    ∙ ap (λ (symbols : List Symbol). map (function_at symbols) c.args.heads.now) c.in_ok-symbols.ensures.value)
    c.functions_at.ensures
