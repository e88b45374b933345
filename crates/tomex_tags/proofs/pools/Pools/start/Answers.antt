use Rattle.std.proofs.Common.{rules}
use Rattle.tomex_tags.specs.Contents.{with_start}
use Rattle.tomex_tags.proofs.Slots.{changed_in}
use Rattle.tomex_tags.proofs.Starting.{starts_filled}
use Rattle.tomex_tags.proofs.pools.Pools.start.Goals as goal

pub invariant_of-self : goal.invariant_of-self
invariant_of-self c = rw c.start.ensures
    (starts_filled c.args.place c.args.finish c.args.value c.index-self-place.result c.self.invariant
    c.if-place-lt96.true (rw (← c.self.view_is) at c.requires) c.stop_waiting.ensures.waiting
    c.stop_waiting.ensures.others)

pub returns-then-place-lt96 : goal.returns-then-place-lt96
returns-then-place-lt96 c = record {
  slots = rw (c.start.ensures, ← c.self.view_is)
      (changed_in (with_start c.args.finish c.args.value) c.self.inside.pools c.args.place c.index-self-place.result
      c.self.invariant.six c.if-place-lt96.true);
  busy = search rules;
  issue_numbers = search rules;
}
