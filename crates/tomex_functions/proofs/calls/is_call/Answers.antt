-- The step before is the one that the definition looks at.
use Rattle.std.proofs.Common.{◌∙◌, arith, refl, rules}
use Rattle.tomex_functions.proofs.CallTurns.{call_is}
use Rattle.tomex_functions.proofs.calls.is_call.Goals as goal

pub returns : goal.returns
returns c = λ symbols d are.
    c.leads_to_call.ensures
    ∙ call_is symbols c.args.steps.now c.args.index d are c.requires.place (omega arith) c.index-steps-index.is
    c.index-steps-index-2.is refl refl (search rules)
