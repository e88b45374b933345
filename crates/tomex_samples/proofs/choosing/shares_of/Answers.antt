use Rattle.std.proofs.lemmas.Grind.{common_steps}
use Rattle.std.proofs.Common.{◌∙◌, ap, arith}
use Rattle.std.proofs.lemmas.List.{take_all}
use Rattle.std.specs.Prelude.{map}
use Rattle.tomex_samples.specs.Near.{leaders_in}
use Rattle.tomex_samples.specs.Parts.{share_of}
use Rattle.tomex_samples.proofs.Renewed.{groups_are}
use Rattle.tomex_samples.proofs.choosing.shares_of.Goals as goal

pub returns : goal.returns
returns g c = λ run of.
    let leaders = c.args.leaders.now in
    let steps = c.args.stretches.now.steps in
    c.loop-leader.invariant run of
    ∙ (ap (map (share_of run (leaders_in c.in_ok-near.near.items) steps))
    (take_all c.loop-leader.leader-index leaders (omega arith))
    ∙ ap (λ gs. map (share_of run gs steps) leaders)
    (groups_are run c.in_ok-near.near.items leaders c.requires.some (c.in_ok-near.ensures run of)))

pub nearest_of-requires-clause-inside : goal.nearest_of-requires-clause-inside
nearest_of-requires-clause-inside = grind (arith, common_steps)

pub loop-leader-preserved : goal.loop-leader-preserved
loop-leader-preserved = grind (arith, common_steps)
