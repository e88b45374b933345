use Rattle.tomex_tags.proofs.Listening.{forgotten}
use Rattle.tomex_tags.proofs.pools.Pools.forget.Goals as goal

pub invariant_of-self : goal.invariant_of-self
invariant_of-self c = record {
  six = c.self.invariant.six;
  own = c.self.invariant.own;
  listening = forgotten _ c.self.inside.listeners.sets c.args.from c.self.invariant.listening c.if-from-lt96.true
      (rw (← c.self.view_is) at c.requires);
  wait_sets = c.self.invariant.wait_sets;
  filled = c.self.invariant.filled;
}
