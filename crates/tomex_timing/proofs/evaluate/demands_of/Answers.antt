-- Each turn of the loop keeps what is held, and adds the step's demands.
use Rattle.std.proofs.lemmas.Grind.{common_steps}
use Rattle.std.proofs.Common.{ap, arith}
use Rattle.tomex_timing.specs.Ahead.{Held}
use Rattle.tomex_timing.proofs.Demanded.{asked_turn, demands_none}
use Rattle.tomex_timing.proofs.Summary.{empty_summary}
use Rattle.tomex_timing.proofs.Turns.{ready, step_of, turn_of}
use Rattle.tomex_timing.proofs.evaluate.demands_of.Goals as goal

pub loop-step-init : goal.loop-step-init
loop-step-init g c = λ steps are. record {
  shown = rw c.new-recent.ensures empty_summary;
  demands = rw (c.none-demands.ensures, ap (λ (held : Held). held.latest.end) c.new-recent.ensures)
      (demands_none c.args.config.now);
}

pub ask_next-requires : goal.ask_next-requires
ask_next-requires g c = record {
  ready = ready (step_of c.args.config.now c.requires.run.0 c.args.facts.now c.loop-step.step-index _
      c.keeps_limits.ensures c.requires.run.1 c.loop-step-test.true (omega arith)).1
      (c.loop-step.invariant c.requires.run.0 c.requires.run.1).shown;
}

pub loop-step-preserved : goal.loop-step-preserved
loop-step-preserved g c = λ steps are.
    let at = step_of c.args.config.now steps c.args.facts.now c.loop-step.step-index _ c.keeps_limits.ensures are
    c.loop-step-test.true (omega arith) in
    let before = c.loop-step.invariant steps are in
    let e = c.in_ok-ask_next.ensures in
    let turn = asked_turn (turn_of at.1 before.shown e.next) before.demands e.held e.noted in
    record { shown = turn.0; demands = turn.1 }

pub returns : goal.returns
returns = grind (arith, common_steps)
