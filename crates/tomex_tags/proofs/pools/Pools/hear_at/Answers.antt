use Rattle.std.proofs.Common.{rules, ◌∙◌, Some}
use Rattle.tomex_tags.specs.Contents.{hears}
use Rattle.tomex_tags.specs.Operands.{only}
use Rattle.tomex_tags.proofs.Reaching.{heard_filled, waits_still}
use Rattle.tomex_tags.proofs.Slots.{changed_in}
use Rattle.tomex_tags.proofs.pools.Pools.hear_at.Goals as goal

pub hear-requires-clause-still : goal.hear-requires-clause-still
hear-requires-clause-still c = λ member. c.hear-waits.ensures.waits
    ∙ waits_still (only c.args.from (Some c.args.value)) c.self.inside.pools c.self.inside.busy c.args.place
    c.self.inside.issue_numbers c.self.inside.listeners.sets c.index-self-place.result c.self.inside.wait_sets
    c.self.invariant c.requires member

pub invariant_of-self : goal.invariant_of-self
invariant_of-self c = rw c.hear-waits.ensures.heard
    (heard_filled (only c.args.from (Some c.args.value)) c.self.inside.pools c.self.inside.busy c.args.place
    c.self.inside.issue_numbers c.self.inside.listeners.sets c.index-self-place.result c.self.inside.wait_sets
    c.hear.new.self c.self.invariant c.requires (rw c.hear-waits.ensures.waits at c.hear.ensures.waiting)
    c.hear.ensures.others)

pub returns : goal.returns
returns c = record {
  slots = rw (c.hear-waits.ensures.heard, ← c.self.view_is)
      (changed_in (hears (only c.args.from (Some c.args.value))) c.self.inside.pools c.args.place
      c.index-self-place.result c.self.invariant.six c.requires);
  busy = search rules;
  issue_numbers = search rules;
}
