-- The function of one step more.
use Rattle.std.proofs.Common.{◌≡◌, rules, slice_index_or, arith}
use Rattle.std.proofs.lemmas.Grind.{common_steps}
use Rattle.tomex_functions.proofs.Indexes.{address_there, functions_more}
use Rattle.tomex_functions.proofs.index.Index.functions_of.Goals as goal

pub loop-step-preserved : goal.loop-step-preserved
loop-step-preserved g c = λ symbols are.
    let is : slice_index_or c.args.steps.now c.loop-step.step-index c.step-item.result ≡ c.step-item.result =
    search rules in
    functions_more symbols c.args.steps.now c.loop-step.step-index c.step-item.result _ _ _ c.loop-step-test.true is
    (c.loop-step.invariant symbols are)
    (c.function_at.ensures symbols c.args.steps.now are
    (address_there c.args.steps.now c.loop-step.step-index c.step-item.result c.loop-step-test.true is))
    c.in_ok-push.ensures.items

pub returns : goal.returns
returns = grind (arith, common_steps)
