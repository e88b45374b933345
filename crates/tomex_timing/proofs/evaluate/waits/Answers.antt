-- Each turn of the loop keeps what is held, and adds the step's waits.
use Rattle.std.proofs.Common.{rules, ◌≡◌, arith, sym}
use Rattle.std.proofs.lemmas.Grind.{common_steps}
use Rattle.tomex_timing.specs.Needs.{waits_in}
use Rattle.tomex_timing.proofs.Summary.{empty_summary}
use Rattle.tomex_timing.proofs.Turns.{held_turn, ready, step_from, turn_of, waits_turn}
use Rattle.tomex_timing.proofs.WaitLists.{length-waits_in, waits_in_within}
use Rattle.tomex_timing.proofs.evaluate.waits.Goals as goal

pub loop-step-init : goal.loop-step-init
loop-step-init g c = record {
  shown = rw c.new-recent.ensures empty_summary;
  waits = c.new-result.ensures.items;
}

pub next_turn-turn-requires : goal.next_turn-turn-requires
next_turn-turn-requires g c =
    ready (step_from c.args.config.now c.args.steps.now c.loop-step.step-index c.step-item.result c.keeps_limits.ensures
    c.requires.few c.loop-step-test.true (search rules) c.of-facts.ensures.facts c.of-facts.ensures.range)
    c.loop-step.invariant.shown

pub loop-step-preserved : goal.loop-step-preserved
loop-step-preserved g c =
    let turn = turn_of (step_from c.args.config.now c.args.steps.now c.loop-step.step-index c.step-item.result
    c.keeps_limits.ensures c.requires.few c.loop-step-test.true (search rules) c.of-facts.ensures.facts
    c.of-facts.ensures.range) c.loop-step.invariant.shown c.next_turn-turn.ensures.next in
    record {
      shown = held_turn turn c.in_ok-keep.ensures;
      waits = rw (c.in_ok-push.ensures.items, c.loop-step.invariant.waits)
          (sym (waits_turn turn c.next_turn-turn.ensures.waits));
    }

pub returns : goal.returns
returns g c =
    let e : c.loop-step.result.items ≡ waits_in c.args.config.now c.args.steps.now = grind (arith, common_steps) in
    record {
      exact = e;
      pairs = rw e (length-waits_in c.args.config.now c.args.steps.now);
      bound = rw e (waits_in_within c.args.config.now c.args.steps.now c.keeps_limits.ensures);
    }
