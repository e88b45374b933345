-- Each turn of the loop keeps what is held, and adds the step's times.
use Rattle.std.proofs.Common.{rules, ◌≡◌, arith, sym}
use Rattle.std.proofs.lemmas.Grind.{common_steps}
use Rattle.tomex_timing.specs.Search.{times_in}
use Rattle.tomex_timing.proofs.Histories.{are_timed, length-times_in, times_bound}
use Rattle.tomex_timing.proofs.Summary.{empty_summary}
use Rattle.tomex_timing.proofs.Turns.{held_turn, ready, step_from, times_turn, turn_of}
use Rattle.tomex_timing.proofs.evaluate.times.Goals as goal

pub loop-step-init : goal.loop-step-init
loop-step-init g c = record {
  shown = rw c.new-recent.ensures empty_summary;
  times = c.new-result.ensures.items;
}

pub next_step-requires : goal.next_step-requires
next_step-requires g c =
    ready (step_from c.args.config.now c.args.steps.now c.loop-step.step-index c.step-item.result c.keeps_limits.ensures
    c.requires.few c.loop-step-test.true (search rules) c.of-facts.ensures.facts c.of-facts.ensures.range)
    c.loop-step.invariant.shown

pub keep-requires : goal.keep-requires
keep-requires g c =
    (ready (step_from c.args.config.now c.args.steps.now c.loop-step.step-index c.step-item.result
    c.keeps_limits.ensures c.requires.few c.loop-step-test.true (search rules) c.of-facts.ensures.facts
    c.of-facts.ensures.range) c.loop-step.invariant.shown).keeps _ c.next_step.ensures

pub loop-step-preserved : goal.loop-step-preserved
loop-step-preserved g c =
    let turn = turn_of (step_from c.args.config.now c.args.steps.now c.loop-step.step-index c.step-item.result
    c.keeps_limits.ensures c.requires.few c.loop-step-test.true (search rules) c.of-facts.ensures.facts
    c.of-facts.ensures.range) c.loop-step.invariant.shown c.next_step.ensures in
    record {
      shown = held_turn turn c.in_ok-keep.ensures;
      times = rw (c.in_ok-push.ensures.items, c.loop-step.invariant.times) (sym (times_turn turn));
    }

pub returns : goal.returns
returns g c =
    let e : c.loop-step.result.items ≡ times_in c.args.config.now c.args.steps.now = grind (arith, common_steps) in
    record {
      exact = e;
      recurrence = are_timed c.args.config.now c.args.steps.now c.keeps_limits.ensures;
      pairs = rw e (length-times_in c.args.config.now c.args.steps.now);
      bound = rw e (times_bound c.args.config.now c.args.steps.now c.keeps_limits.ensures);
    }
