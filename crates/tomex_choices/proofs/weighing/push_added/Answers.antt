-- No number yet, and one more.
use Rattle.std.proofs.Common.{◌<◌, ◌∙◌, ◌++◌, ap, arith, refl, Option}
use Rattle.tomex_config.specs.Configuration.{Configuration}
use Rattle.tomex_config.specs.declared.part.Part.{Part}
use Rattle.tomex_config.specs.Parts.{part_at}
use Rattle.tomex_config.specs.Parts.{most_of}
use Rattle.tomex_choices.specs.NewMachines.{grown}
use Rattle.tomex_choices.specs.Weighed.{added_if}
use Rattle.tomex_choices.proofs.Adding.{added_more, none_added}
use Rattle.tomex_choices.proofs.weighing.push_added.Goals as goal

pub loop-fewer-init : goal.loop-fewer-init
loop-fewer-init c =
    none_added c.args.entries.now.rows (part_at c.args.entries.now.place) c.args.machines.now c.args.config.now
    c.args.added.now.items (most_of (part_at c.args.entries.now.place)) refl

pub loop-fewer-preserved : goal.loop-fewer-preserved
loop-fewer-preserved c =
    let part = part_at c.args.entries.now.place in
    let machines = c.args.machines.now in
    let before = c.loop-fewer.added.items in
    let same = c.most-fewer-end.ensures.value ∙ ap most_of c.part-part.ensures in
    let low : c.loop-fewer.fewer < most_of part = omega (arith, same, c.loop-fewer-test.true) in
    added_more (λ n. added_if part machines (grown c.args.entries.now.rows part c.args.config.now n))
    c.loop-fewer.fewer (most_of part) before c.push_if.new.added.items _ low
    (c.in_ok-push_if.ensures
    ∙ (ap (λ (p : Part). before ++ added_if p machines c.grown.result) c.part-part.ensures
    ∙ ap (λ (o : Option Configuration). before ++ added_if part machines o) c.grown.ensures))
    c.loop-fewer.invariant
