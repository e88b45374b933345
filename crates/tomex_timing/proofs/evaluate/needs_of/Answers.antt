-- Each turn of the loop keeps what is held, and adds the step's needs.
use Rattle.std.proofs.lemmas.Grind.{common_steps}
use Rattle.std.proofs.Common.{◌^◌, arith}
use Rattle.tomex_timing.proofs.Needed.{needs_none}
use Rattle.tomex_timing.proofs.Summary.{empty_summary}
use Rattle.tomex_timing.proofs.Turns.{held_turn, length_facts, needs_small, needs_turn, ready, step_of, turn_of}
use Rattle.tomex_timing.proofs.Turns.{waits_small}
use Rattle.tomex_timing.proofs.evaluate.needs_of.Goals as goal

pub loop-step-init : goal.loop-step-init
loop-step-init g c = λ steps are. record {
  shown = rw c.new-recent.ensures empty_summary;
  needs = rw c.none-needs.ensures (needs_none c.args.config.now);
}

pub next_turn-turn-requires : goal.next_turn-turn-requires
next_turn-turn-requires g c =
    ready (step_of c.args.config.now c.requires.run.0 c.args.facts.now c.loop-step.step-index _ c.keeps_limits.ensures
    c.requires.run.1 c.loop-step-test.true (omega arith)).1
    (c.loop-step.invariant c.requires.run.0 c.requires.run.1).shown

pub note-requires-clause-needs : goal.note-requires-clause-needs
note-requires-clause-needs g c =
    needs_small c.args.config.now c.requires.run.0 c.args.facts.now c.loop-step.step-index c.loop-step.needs
    c.keeps_limits.ensures c.requires.run.1 (omega arith) c.requires.few
    (c.loop-step.invariant c.requires.run.0 c.requires.run.1).needs

pub note-requires-clause-waits : goal.note-requires-clause-waits
note-requires-clause-waits g c =
    let at = step_of c.args.config.now c.requires.run.0 c.args.facts.now c.loop-step.step-index _ c.keeps_limits.ensures
    c.requires.run.1 c.loop-step-test.true (omega arith) in
    let many = length_facts c.requires.run.0 c.args.facts.now c.requires.run.1 in
    waits_small (turn_of at.1 (c.loop-step.invariant c.requires.run.0 c.requires.run.1).shown
    c.next_turn-turn.ensures.next) (2 ^ 62) (omega (arith, many, c.requires.few)) c.next_turn-turn.ensures.waits

pub loop-step-preserved : goal.loop-step-preserved
loop-step-preserved g c = λ steps are.
    let at = step_of c.args.config.now steps c.args.facts.now c.loop-step.step-index _ c.keeps_limits.ensures are
    c.loop-step-test.true (omega arith) in
    let before = c.loop-step.invariant steps are in
    let e = c.next_turn-turn.ensures in
    let turn = turn_of at.1 before.shown e.next in
    record {
      shown = held_turn turn c.in_ok-keep.ensures;
      needs = rw c.note.ensures (needs_turn turn e.waits e.taken before.needs);
    }

pub returns : goal.returns
returns = grind (arith, common_steps)
