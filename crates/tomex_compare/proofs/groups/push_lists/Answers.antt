-- The groups of one list more.
use Rattle.std.proofs.Common.{arith}
use Rattle.std.proofs.lemmas.Grind.{common_steps}
use Rattle.tomex_config.specs.Parts.{all_parts}
use Rattle.tomex_compare.specs.Groups.{list_groups}
use Rattle.tomex_layout.proofs.Loops.{items_pushed}
use Rattle.tomex_compare.proofs.groups.push_lists.Goals as goal

pub loop-part-preserved : goal.loop-part-preserved
loop-part-preserved g c =
    items_pushed (list_groups c.args.surveyed.now c.args.pairs.now) all_parts c.loop-part.part-index _ _ _ _
    c.loop-part-test.true c.loop-part.invariant c.in_ok-push_list.ensures

pub returns : goal.returns
returns = grind (arith, common_steps)
