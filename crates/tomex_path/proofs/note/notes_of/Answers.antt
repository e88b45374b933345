-- Each turn of the loop keeps what is held, and adds the step's times and its note.
use Rattle.std.proofs.lemmas.Grind.{common_steps}
use Rattle.std.proofs.Common.{ℕ, ◌-◌, ◌^◌, ◌≡◌, ◌∙◌, arith, sym, take}
use Rattle.tomex_timing.specs.Search.{history}
use Rattle.tomex_timing.proofs.Histories.{are_timed}
use Rattle.tomex_timing.proofs.Summary.{empty_summary, settled_by}
use Rattle.tomex_timing.proofs.Turns.{held_turn, length_facts, ready, step_of, times_turn, turn_of, waits_small}
use Rattle.tomex_path.specs.Seen.{done_at, note_of}
use Rattle.tomex_path.proofs.NoteSteps.{noted_turn}
use Rattle.tomex_path.proofs.Places.{notes_more}
use Rattle.tomex_path.proofs.note.notes_of.Goals as goal

pub loop-step-init : goal.loop-step-init
loop-step-init g c = λ steps are. record {
  shown = rw c.new-recent.ensures empty_summary;
  times = c.in_ok-times.ensures.items;
  notes = c.in_ok-notes.ensures.items;
}

pub next_turn-turn-requires : goal.next_turn-turn-requires
next_turn-turn-requires g c =
    ready (step_of c.args.config.now c.requires.run.0 c.args.facts.now c.loop-step.step-index _ c.keeps_limits.ensures
    c.requires.run.1 c.loop-step-test.true (omega (arith, c.requires.few))).1
    (c.loop-step.invariant c.requires.run.0 c.requires.run.1).shown

pub note_of-requires-clause-zero : goal.note_of-requires-clause-zero
note_of-requires-clause-zero g c =
    let before = take c.loop-step.step-index c.requires.run.0 in
    (settled_by c.args.config.now (history c.args.config.now before) _ c.keeps_limits.ensures
    (are_timed c.args.config.now before c.keeps_limits.ensures)
    (c.loop-step.invariant c.requires.run.0 c.requires.run.1).shown).zero

pub note_of-requires-clause-small : goal.note_of-requires-clause-small
note_of-requires-clause-small g c =
    let at = step_of c.args.config.now c.requires.run.0 c.args.facts.now c.loop-step.step-index _ c.keeps_limits.ensures
    c.requires.run.1 c.loop-step-test.true (omega (arith, c.requires.few)) in
    let many = length_facts c.requires.run.0 c.args.facts.now c.requires.run.1 in
    waits_small (turn_of at.1 (c.loop-step.invariant c.requires.run.0 c.requires.run.1).shown
    c.next_turn-turn.ensures.next) (2 ^ 32 - 1) (omega (arith, many, c.requires.few)) c.next_turn-turn.ensures.waits

pub loop-step-preserved : goal.loop-step-preserved
loop-step-preserved g c = λ steps are.
    let i : ℕ = c.loop-step.step-index in
    let at = step_of c.args.config.now steps c.args.facts.now c.loop-step.step-index _ c.keeps_limits.ensures are
    c.loop-step-test.true (omega (arith, c.requires.few)) in
    let before = c.loop-step.invariant steps are in
    let e = c.next_turn-turn.ensures in
    let turn = turn_of at.1 before.shown e.next in
    let noted : c.note_of.result ≡ note_of c.args.config.now (history c.args.config.now (take i steps))
    (done_at c.args.config.now steps i at.0) = c.note_of.ensures ∙ noted_turn turn e.waits in
    record {
      shown = held_turn turn c.in_ok-keep.ensures;
      times = rw (c.in_ok-push-2.ensures.items, before.times) (sym (times_turn turn));
      notes = rw (c.in_ok-push.ensures.items, before.notes, noted)
          (sym (notes_more c.args.config.now steps i at.0 at.1.place at.1.at));
    }

pub returns-clause-times : goal.returns-clause-times
returns-clause-times = grind (arith, common_steps)

pub returns-clause-notes : goal.returns-clause-notes
returns-clause-notes = grind (arith, common_steps)
