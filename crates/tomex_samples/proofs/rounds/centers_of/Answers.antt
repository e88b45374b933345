use Rattle.std.proofs.lemmas.Grind.{common_steps}
use Rattle.std.proofs.Common.{◌<◌, ◌∙◌, ◌++◌, ◌∷◌, [], ap, arith, length, sym, take}
use Rattle.std.proofs.lemmas.List.{map_push, take_more}
use Rattle.std.specs.Prelude.{map, slice_index}
use Rattle.tomex_samples.specs.Groups.{center}
use Rattle.tomex_samples.specs.Near.{leaders_in}
use Rattle.tomex_samples.proofs.Renewed.{can_as, can_more}
use Rattle.tomex_samples.proofs.rounds.centers_of.Goals as goal

pub center-requires-clause-can : goal.center-requires-clause-can
center-requires-clause-can g c = c.requires.can c.loop-leader.leader-index (omega arith)

pub loop-leader-preserved : goal.loop-leader-preserved
loop-leader-preserved g c =
    let i = c.loop-leader.leader-index in
    let leaders = c.args.leaders.now in
    let here : i < length leaders = omega arith in
    let items = c.in_ok-push.ensures.items in
    record {
      centers = λ run of.
          items ∙ (ap (λ xs. xs ++ c.in_ok-center.center ∷ []) (c.loop-leader.invariant.centers run of)
          ∙ (ap (λ x. map (center run (leaders_in c.args.near.now)) (take i leaders) ++ x ∷ [])
          (c.in_ok-center.ensures.center run of)
          ∙ sym (ap (map (center run (leaders_in c.args.near.now))) (take_more leaders i 0 here)
          ∙ map_push (center run (leaders_in c.args.near.now)) (take i leaders) (slice_index leaders i))));
      can = can_as c.args.stretches.now.parts.items _ _ items
          (can_more c.args.stretches.now.parts.items c.loop-leader.centers.items c.in_ok-center.center
          c.loop-leader.invariant.can c.in_ok-center.ensures.can);
    }

pub returns-clause-centers : goal.returns-clause-centers
returns-clause-centers = grind (arith, common_steps)
