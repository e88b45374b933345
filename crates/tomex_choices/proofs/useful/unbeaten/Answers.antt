-- After the last machine those that stayed are the ones that none beats.
use Rattle.std.proofs.Common.{◌≡◌, arith, None, subst}
use Rattle.std.proofs.lemmas.Grind.{common_steps}
use Rattle.tomex_choices.specs.Passing.{AreUnbeaten}
use Rattle.tomex_choices.proofs.Passes.{passed, passing}
use Rattle.tomex_choices.proofs.useful.unbeaten.Goals as goal

pub returns : goal.returns
returns g c =
    let e : passing None c.sort_machines.new.machines.items ≡ c.loop-x.unbeaten.items = grind (arith, common_steps) in
    subst (AreUnbeaten c.args.machines.items) e (passed c.args.machines.items c.sort_machines.new.machines.items
    c.sort_machines.ensures.moved c.sort_machines.ensures.order)

pub loop-x-preserved : goal.loop-x-preserved
loop-x-preserved = grind (arith, common_steps)
