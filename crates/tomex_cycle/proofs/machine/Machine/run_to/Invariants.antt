use Rattle.tomex_cycle.proofs.Words.{seen, seen_after, Running, EndsWithinLimit, run_of, ◌≡◌, ◌≤◌, ◌-◌, max}
use Rattle.tomex_cycle.proofs.Skips.{IsPaid}
use Rattle.tomex_cycle.proofs.machine.Machine.run_to.Given as goal

abbrev pub invariant-loop-self : goal.invariant-loop-self
invariant-loop-self g l = record {
  image : l.self.image ≡ l.initial.self.image;
  config : l.self.config ≡ l.initial.self.config;
  low : l.initial.self.cycle ≤ l.self.cycle;
  high : l.self.cycle ≤ max l.initial.self.cycle l.to;
  running : l.self.status ≡ Running;
  none : l.to ≤ l.initial.self.cycle → l.self ≡ l.initial.self;
  ends : EndsWithinLimit l.initial.self.image
      → seen l.self ≡ seen_after l.initial.self.image l.initial.self.config l.self.cycle;
  paid : EndsWithinLimit l.initial.self.image → IsPaid (run_of l.initial.self.config l.initial.self.image) l.to
      l.initial.self.cycle l.self.cycle l.initial.self.cycles_made l.self.cycles_made;
}

abbrev pub decreases-loop-self : goal.decreases-loop-self
decreases-loop-self g l = l.to - l.self.cycle
