use Rattle.tomex_cycle.proofs.Words.{◌≡◌, ◌<◌, arith, refl, ap, sym, max, ◌∙◌}
use Rattle.tomex_cycle.specs.Seen.{seen}
use Rattle.tomex_cycle.proofs.Skips.{paid_counts, paid_first, paid_on}
use Rattle.tomex_cycle.proofs.Outer.{over_seen}
use Rattle.tomex_cycle.proofs.machine.Machine.run_to.Goals as goal

pub loop-self-init : goal.loop-self-init
loop-self-init g c = record {
  image = refl;
  config = refl;
  low = omega arith;
  high = omega arith;
  running = c.requires.running;
  none = λ h. refl;
  ends = c.keeps_step.ensures;
  paid = λ ends. paid_first;
}

pub loop-self-preserved : goal.loop-self-preserved
loop-self-preserved g c =
    let at = ap (λ x. x.cycle) c.self-in-loop-self.view_is in
    let ahead : c.loop-self.self.cycle < c.args.to = omega (arith, c.loop-self-test.true) in
    record {
      image = c.go_on.ensures.image ∙ c.loop-self.invariant.image;
      config = c.go_on.ensures.config ∙ c.loop-self.invariant.config;
      low = omega (arith, c.go_on.ensures.least, c.loop-self.invariant.low);
      high = omega (arith, c.go_on.ensures.most);
      running = sym c.go_on.ensures.answer ∙ c.in-Running.is;
      none = λ h. absurd (omega (arith, h, c.loop-self.invariant.low));
      ends = rw (c.loop-self.invariant.image, c.loop-self.invariant.config) at c.go_on.ensures.ends;
      paid = λ e. paid_on ahead (c.loop-self.invariant.paid e)
          ((rw (c.loop-self.invariant.image, c.loop-self.invariant.config) at c.go_on.ensures.goes) e);
    }

pub returns-in_default : goal.returns-in_default
returns-in_default g c =
    let at = ap (λ x. x.cycle) c.self-in-loop-self.view_is in
    let ahead : c.loop-self.self.cycle < c.args.to = omega (arith, c.loop-self-test.true) in
    record {
      image = c.go_on.ensures.image ∙ c.loop-self.invariant.image;
      config = c.go_on.ensures.config ∙ c.loop-self.invariant.config;
      not_back = omega (arith, c.go_on.ensures.least, c.loop-self.invariant.low);
      not_past = omega (arith, c.go_on.ensures.most);
      there_if_running = λ runs. absurd (c.in_default.not-Running (c.go_on.ensures.answer ∙ runs));
      same_if_over = λ stopped. absurd (stopped c.requires.running);
      same_if_there = λ h. absurd (omega (arith, h, c.loop-self.invariant.low));
      after_ticks = λ e. over_seen c.args.self.now.image c.args.self.now.config c.go_on.new.self.cycle
          (max c.args.self.now.cycle c.args.to) (seen c.go_on.new.self)
          ((rw (c.loop-self.invariant.image, c.loop-self.invariant.config) at c.go_on.ensures.ends) e)
          (λ runs. c.in_default.not-Running (c.go_on.ensures.answer ∙ runs)) (omega (arith, c.go_on.ensures.most));
      cycles_made = λ e. paid_counts (paid_on ahead (c.loop-self.invariant.paid e)
          ((rw (c.loop-self.invariant.image, c.loop-self.invariant.config) at c.go_on.ensures.goes) e));
    }

pub returns : goal.returns
returns g c =
    let at = ap (λ x. x.cycle) c.self-in-loop-self.view_is in
    let there : c.loop-self.self.cycle ≡ max c.args.self.now.cycle c.args.to = omega (
      arith,
      c.loop-self-test.false,
      c.loop-self.invariant.low,
      c.loop-self.invariant.high,
    ) in
    record {
      image = c.loop-self.invariant.image;
      config = c.loop-self.invariant.config;
      not_back = c.loop-self.invariant.low;
      not_past = c.loop-self.invariant.high;
      there_if_running = λ runs. there;
      same_if_over = λ stopped. absurd (stopped c.requires.running);
      same_if_there = c.loop-self.invariant.none;
      after_ticks = λ e. rw (← there) (c.loop-self.invariant.ends e);
      cycles_made = λ e. paid_counts (c.loop-self.invariant.paid e);
    }
