-- The functions' numbers are keys of steps.
use Rattle.std.proofs.Common.{◌≡◌, ◌∙◌, ap, map, subst, sym, ℕ, List}
use Rattle.std.proofs.lemmas.Result.{IfOk-weaker}
use Rattle.tomex_rvexec.specs.declared.step.Step.{Step}
use Rattle.tomex_functions.specs.Functions.{function_key}
use Rattle.tomex_functions.specs.Kept.{IsIndexOf}
use Rattle.tomex_functions.specs.declared.index.Index.{Index}
use Rattle.tomex_symbols.specs.declared.symbol.Symbol.{Symbol}
use Rattle.tomex_path_views.proofs.by_function.count_by_function.Goals as goal

-- of the run's steps
keys_of_run : {A : Type 0} (symbols : List Symbol) (steps whole : List Step) (index : Index A) (held keys : List ℕ)
    → steps ≡ whole → held ≡ keys
    → ((ss : List Symbol) → IsIndexOf ss steps index → keys ≡ map (function_key ss) steps)
    → IsIndexOf symbols whole index → held ≡ map (function_key symbols) whole
keys_of_run symbols steps whole index held keys same is are indexed =
    is ∙ (are symbols (subst (λ (ss : List Step). IsIndexOf symbols ss index) (sym same) indexed)
    ∙ ap (map (function_key symbols)) same)

pub count_path-requires-clause-keys : goal.count_path-requires-clause-keys
count_path-requires-clause-keys g c = (
  function_key c.requires.index.0,
  keys_of_run c.requires.index.0 c.steps.result.now _ c.args.index.now _ _ c.steps.ensures c.as_slice.ensures.value
      c.in_ok-keys.ensures c.requires.index.1,
)

pub returns : goal.returns
returns g c = IfOk-weaker c.count_path.result _ _ (λ tally counted symbols indexed. counted (function_key symbols)
    (keys_of_run symbols c.steps.result.now _ c.args.index.now _ _ c.steps.ensures c.as_slice.ensures.value
    c.in_ok-keys.ensures indexed)) c.count_path.ensures
