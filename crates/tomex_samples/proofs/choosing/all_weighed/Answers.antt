use Rattle.std.proofs.lemmas.Grind.{common_steps}
use Rattle.std.proofs.Common.{arith}
use Rattle.tomex_samples.proofs.Weighing.{most_is}
use Rattle.tomex_samples.proofs.choosing.all_weighed.Goals as goal

pub weighed-requires-clause-shares : goal.weighed-requires-clause-shares
weighed-requires-clause-shares g c =
    let there = c.requires.some.2 in
    let f = most_is c.args.shares.now _ c.heaviest-most.result c.heaviest-most.ensures c.requires
    (c.requires.each 0 _ (omega (arith, there))) in
    (c.requires.each c.loop-share.share-index _ (omega arith), f.0.share)

pub weighed-requires-clause-some : goal.weighed-requires-clause-some
weighed-requires-clause-some g c =
    let there = c.requires.some.2 in
    let f = most_is c.args.shares.now _ c.heaviest-most.result c.heaviest-most.ensures c.requires
    (c.requires.each 0 _ (omega (arith, there))) in
    f.1

pub weighed-requires-clause-most : goal.weighed-requires-clause-most
weighed-requires-clause-most g c =
    let there = c.requires.some.2 in
    let f = most_is c.args.shares.now _ c.heaviest-most.result c.heaviest-most.ensures c.requires
    (c.requires.each 0 _ (omega (arith, there))) in
    f.0.each c.loop-share.share-index _ (omega arith)

pub loop-share-preserved : goal.loop-share-preserved
loop-share-preserved = grind (arith, common_steps)
