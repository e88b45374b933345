-- A steal leaves the victim's list unchanged.
use Rattle.std.proofs.Common.{◌≡◌, ◌∙◌, ap, set, rules}
use Rattle.std.proofs.lemmas.List.{set-get_or}
use Rattle.tomex_lanes.proofs.lane.Lane.take.Goals as goal

pub loop-k-preserved : goal.loop-k-preserved
loop-k-preserved g c = let i = c.loop-k.invariant in let others = c.loop-k.self-inside.others.items in (
  i.0,
  i.1,
  i.2,
  i.3,
  ap (set others c.loop-k.k) (c.steal.ensures.same ∙ c.index_mut.ensures.value)
      ∙ (set-get_or others c.loop-k.k c.index_mut.result.now ∙ i.4),
)

pub returns-in-Some-steal-clause-same : goal.returns-in-Some-steal-clause-same
returns-in-Some-steal-clause-same g c = let i = c.loop-k.invariant in
    let others = c.loop-k.self-inside.others.items in
    let same : set others c.loop-k.k c.steal.new.self ≡ c.self.inside.others.items =
    ap (set others c.loop-k.k) (c.steal.ensures.same ∙ c.index_mut.ensures.value)
    ∙ (set-get_or others c.loop-k.k c.index_mut.result.now ∙ i.4) in
    let is = c.self.view_is in cc

pub returns-in-Some-clause-list : goal.returns-in-Some-clause-list
returns-in-Some-clause-list g c = search rules fits 100
