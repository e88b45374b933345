-- Each turn of the loop is a step more of the run.
use Rattle.std.proofs.Common.{◌≡◌, ◌∙◌, arith, refl, sym, true≢false}
use Rattle.tomex_timing.proofs.Turns.{step_of}
use Rattle.tomex_states.proofs.Steps.{noted_next, ready_next, shows_next, window_next}
use Rattle.tomex_states.proofs.state.State.evaluate.Goals as goal
use Rattle.tomex_states.proofs.state.State.evaluate.Goals.{else-is_some, then-is_some}

pub ask_next-requires : goal.ask_next-requires
ask_next-requires g c = record {
  ready = ready_next (step_of c.args.config.now c.requires.run.0 c.args.facts.now c.loop-place.place _
      c.keeps_limits.ensures c.requires.run.1 (omega arith) c.requires.few).1
      (c.loop-place.invariant c.requires.run.0 c.requires.run.1 c.requires.run.2).state.held;
}

pub loop-place-preserved : goal.loop-place-preserved
loop-place-preserved g c = λ steps are shown.
    let at = step_of c.args.config.now steps c.args.facts.now c.loop-place.place _ c.keeps_limits.ensures are
    (omega arith) c.requires.few in
    let before = c.loop-place.invariant steps are shown in
    let e = c.in_ok-next.ensures in
    let held = shows_next at.1 before.state.held e.next e.held in
    record {
      state = elim c.if-is_some.branch [
        | then-is_some w ↦ rw w.self-is (record {
          held = held;
          window = window_next at.1 before.state.held e.next before.state.window
              (λ some. record {
                first = w.note.ensures.first;
                later = w.note.ensures.later;
                older = w.note.ensures.older;
                count = w.note.ensures.count;
              })
              (λ none. absurd (true≢false (sym w.if-is_some.true ∙ (c.is_some.ensures ∙ none))));
        })
        | else-is_some w ↦ rw w.self-is (record {
          held = held;
          window = window_next at.1 before.state.held e.next before.state.window
              (λ some. absurd (true≢false (sym some ∙ (sym c.is_some.ensures ∙ w.if-is_some.false)))) (λ none. refl);
        })
      ];
      noted = λ noted. noted_next at.1 before.state.held e.next e.noted (before.noted noted);
    }

pub returns-clause-shown : goal.returns-clause-shown
returns-clause-shown g c = λ steps are shown.
    let e : c.args.end ≡ c.loop-place.place = omega arith in
    rw e (c.loop-place.invariant steps are shown).state

pub returns-clause-noted : goal.returns-clause-noted
returns-clause-noted g c = λ steps are shown.
    let e : c.args.end ≡ c.loop-place.place = omega arith in
    rw e (c.loop-place.invariant steps are shown).noted
