-- The field is the name of the step's function.
use Rattle.std.proofs.Common.{◌∙◌, [], ◌∷◌, ◌++◌, ap, sym, List, ℕ, Option}
use Rattle.std.proofs.lemmas.Result.{on_ok_weaker}
use Rattle.csv.specs.Records.{fields_of}
use Rattle.tomex_symbols.specs.declared.symbol.Symbol.{Symbol}
use Rattle.tomex_functions.specs.ShownNames.{name_field}
use Rattle.tomex_functions.proofs.by_place.FunctionColumnStepColumns.push_fields.Goals as goal

pub returns-clause-fields : goal.returns-clause-fields
returns-clause-fields g c =
    on_ok_weaker c.push_function.result (λ pushed own is. pushed
    ∙ ap (λ (fs : List (List ℕ)). fields_of c.args.fields.now ++ fs)
    (ap (λ (f : Option Symbol). name_field c.args.self.now.file.now f ∷ [])
    (c.function_at.ensures is.symbols is.steps is.index_is is.has) ∙ sym is.own_is)) c.push_function.ensures.fields
