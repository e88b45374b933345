use Rattle.std.proofs.Common.{ℕ, ◌+◌, ◌-◌, ◌*◌, ◌<◌, length, ◌∙◌, ap, refl, subst, sym}
use Rattle.std.proofs.lemmas.Bool.{MatchBool-at_false, MatchBool-at_true}
use Rattle.std.proofs.lemmas.Result.{err_from_is_err_and}
use Rattle.std.specs.Prelude.{◌/◌, replicate}
use Rattle.tomex_samples.specs.Stretches.{most_stretches, run_length}
use Rattle.tomex_samples.specs.Tally.{lists}
use Rattle.tomex_samples.proofs.Advance.{advance, found_none, passed}
use Rattle.tomex_samples.proofs.Limits.{few_counts, few_stretches, limits_of, one_step_more, tallied_still}
use Rattle.tomex_samples.proofs.Limits.{window_walked}
use Rattle.tomex_samples.proofs.Limits.{none_to_go, none_under_way, word_counted, words_walked}
use Rattle.tomex_samples.proofs.Tallying.{tallied_none}
use Rattle.tomex_samples.proofs.Walked.{length_fails, plus, walked_more, walked_start}
use Rattle.tomex_samples.proofs.walking.tally_run.Goals as goal

pub loop-done-init : goal.loop-done-init
loop-done-init g c =
    let start = c.requires in
    record {
      walked = walked_start c.args.image.now c.args.steps c.args.cpu.now _ _ _ c.fills_its_window.ensures
          start.start c.window.ensures.value c.keeps_limits.ensures
          (start.base ∙ sym (ap (λ w. w.base) c.window.ensures.value))
          (start.unused ∙ sym (ap (λ w. replicate (w.size / 4) 0) c.window.ensures.value));
      tallied = tallied_none c.args.image.now c.args.steps _ _ _ _ _ start.current start.counts start.words
          (ap lists start.rows) (ap length start.parts);
      found = found_none c.args.image.now c.args.steps _ _ start.parts start.waiting;
      current = none_under_way _ _ start.current start.steps.0;
    }

pub returns-in_err-word-clause-err : goal.returns-in_err-word-clause-err
returns-in_err-word-clause-err g c =
    let p = err_from_is_err_and c.from_residual.result c.from_residual.ensures.1 in
    let limit = most_stretches * c.args.steps in
    rw (p.1, p.2) (λ other. c.loop-done.invariant.walked.whole
    ∙ length_fails c.loop-done.done limit c.loop-done.cpu c.in_err-word.field-0.0 c.loop-done-test.true
    (c.in_err-word.ensures.err (run_length (limit - (c.loop-done.done + 1)))))

pub returns-in_err-ends-clause-err : goal.returns-in_err-ends-clause-err
returns-in_err-ends-clause-err g c =
    let p = err_from_is_err_and c.from_residual-in_err-ends.result c.from_residual-in_err-ends.ensures.1 in
    let limit = most_stretches * c.args.steps in
    rw (p.1, p.2) (λ other. c.loop-done.invariant.walked.whole
    ∙ length_fails c.loop-done.done limit c.loop-done.cpu c.in_err-ends.field-0.0 c.loop-done-test.true
    (c.in_err-ends.ensures.err (run_length (limit - (c.loop-done.done + 1)))))

pub returns-in_err-add_step-clause-err : goal.returns-in_err-add_step-clause-err
returns-in_err-add_step-clause-err g c =
    let p = err_from_is_err_and c.from_residual-in_err-add_step.result c.from_residual-in_err-add_step.ensures.1 in
    rw (p.1, p.2) (λ other. absurd (other refl))

pub end_since-requires-then-ends-clause-tallied : goal.end_since-requires-then-ends-clause-tallied
end_since-requires-then-ends-clause-tallied g c =
    let walk = c.loop-done.invariant in
    let stepped = c.in_ok-ends.ensures.ok in
    let on =
    advance c.args.image.now c.args.steps c.loop-done.done c.in_ok-word.word c.last_use.result c.loop-done.cpu _ _
    stepped.0
    c.loop-done.tally c.end_since.new.self c.add_step.new.self c.requires.steps.1 walk.walked walk.tallied walk.found
    c.in_ok-word.ensures.inside c.in_ok-word.ensures.at c.in_ok-word.ensures.holds c.last_use.ensures
    c.end_since.ensures.ends c.end_since.ensures.current c.end_since.ensures.counts c.end_since.ensures.rows
    stepped.1.comes c.in_ok-add_step.ensures.tallied c.in_ok-add_step.ensures.found in
    (c.args.image.now, on.tallied)

pub end_since-requires-then-ends-clause-found : goal.end_since-requires-then-ends-clause-found
end_since-requires-then-ends-clause-found g c =
    let walk = c.loop-done.invariant in
    let stepped = c.in_ok-ends.ensures.ok in
    let on =
    advance c.args.image.now c.args.steps c.loop-done.done c.in_ok-word.word c.last_use.result c.loop-done.cpu _ _
    stepped.0
    c.loop-done.tally c.end_since.new.self c.add_step.new.self c.requires.steps.1 walk.walked walk.tallied walk.found
    c.in_ok-word.ensures.inside c.in_ok-word.ensures.at c.in_ok-word.ensures.holds c.last_use.ensures
    c.end_since.ensures.ends c.end_since.ensures.current c.end_since.ensures.counts c.end_since.ensures.rows
    stepped.1.comes c.in_ok-add_step.ensures.tallied c.in_ok-add_step.ensures.found in
    (c.args.image.now, c.loop-done.done + 1, on.found)

pub returns-then-ends-clause-ok : goal.returns-then-ends-clause-ok
returns-then-ends-clause-ok g c = λ r steps_are words_are rows_are parts_are.
    let walk = c.loop-done.invariant in
    let stepped = c.in_ok-ends.ensures.ok in
    let on =
    advance c.args.image.now c.args.steps c.loop-done.done c.in_ok-word.word c.last_use.result c.loop-done.cpu _ _
    stepped.0
    c.loop-done.tally c.end_since.new.self c.add_step.new.self c.requires.steps.1 walk.walked walk.tallied walk.found
    c.in_ok-word.ensures.inside c.in_ok-word.ensures.at c.in_ok-word.ensures.holds c.last_use.ensures
    c.end_since.ensures.ends c.end_since.ensures.current c.end_since.ensures.counts c.end_since.ensures.rows
    stepped.1.comes c.in_ok-add_step.ensures.tallied c.in_ok-add_step.ensures.found in
    let over = MatchBool-at_true _ _ c.if-ends.true stepped.1.goes in
    let last = c.end_since-then-ends.ensures in
    passed c.args.image.now c.args.steps c.loop-done.done c.loop-done.cpu _ _ over.0 stepped.0 c.add_step.new.self
    c.end_since-then-ends.new.self r c.requires.steps.0 c.requires.steps.1 walk.walked c.loop-done-test.true
    on c.in_ok-add_step.ensures.under_way stepped.1.comes over.1 last.ends last.counts last.rows steps_are words_are
    rows_are parts_are

pub loop-done-preserved : goal.loop-done-preserved
loop-done-preserved g c =
    let walk = c.loop-done.invariant in
    let stepped = c.in_ok-ends.ensures.ok in
    let goes = MatchBool-at_false _ _ c.if-ends.false stepped.1.goes in
    let on =
    advance c.args.image.now c.args.steps c.loop-done.done c.in_ok-word.word c.last_use.result c.loop-done.cpu _ _
    stepped.0
    c.loop-done.tally c.end_since.new.self c.add_step.new.self c.requires.steps.1 walk.walked walk.tallied walk.found
    c.in_ok-word.ensures.inside c.in_ok-word.ensures.at c.in_ok-word.ensures.holds c.last_use.ensures
    c.end_since.ensures.ends c.end_since.ensures.current c.end_since.ensures.counts c.end_since.ensures.rows
    stepped.1.comes c.in_ok-add_step.ensures.tallied c.in_ok-add_step.ensures.found in
    record {
      walked = walked_more c.args.image.now c.args.steps c.loop-done.done c.loop-done.cpu c.take_step.new.cpu _ _ _ _
          stepped.0 walk.walked stepped.1.comes goes c.loop-done-test.true stepped.1.numbers c.in_ok-ends.ensures.base;
      tallied = on.tallied;
      found = on.found;
      current = c.in_ok-add_step.ensures.under_way;
    }

pub returns-clause-err : goal.returns-clause-err
returns-clause-err g c = λ other.
    let limit = most_stretches * c.args.steps in
    let all = none_to_go _ _ c.loop-done-test.false in
    c.loop-done.invariant.walked.whole
    ∙ ap (λ m. plus c.loop-done.done (run_length m c.loop-done.cpu)) all

pub add_step-requires-clause-few : goal.add_step-requires-clause-few
add_step-requires-clause-few g c =
    few_stretches c.args.steps c.loop-done.done _ _ _ c.loop-done.invariant.tallied.done c.loop-done-test.true
    c.end_since.ensures.ends.ending.size

pub add_step-requires-clause-tallied : goal.add_step-requires-clause-tallied
add_step-requires-clause-tallied g c =
    let ended = c.end_since.ensures in
    let tallied = tallied_still c.args.image.now c.args.steps c.loop-done.done c.loop-done.tally c.end_since.new.self
    c.loop-done.invariant.tallied ended.counts ended.current ended.rows ended.ends.ending.size in
    (c.args.image.now, c.loop-done.done, tallied)

pub add_step-requires-clause-size : goal.add_step-requires-clause-size
add_step-requires-clause-size g c =
    few_counts c.args.image.now c.args.steps c.loop-done.done c.loop-done.tally c.end_since.new.self
    c.loop-done.invariant.tallied c.end_since.ensures.counts
    (limits_of _ _ c.window.ensures.value c.keeps_limits.ensures)

pub add_step-requires-clause-inside : goal.add_step-requires-clause-inside
add_step-requires-clause-inside g c =
    word_counted c.args.image.now c.args.steps c.loop-done.done c.loop-done.tally c.end_since.new.self
    c.loop-done.invariant.tallied c.end_since.ensures.counts c.loop-done.cpu _ _ _ c.loop-done.invariant.walked
    c.in_ok-word.ensures.inside

pub add_step-requires-clause-under_way : goal.add_step-requires-clause-under_way
add_step-requires-clause-under_way g c =
    subst (λ (k : ℕ). k < c.args.steps) (sym c.end_since.ensures.current) c.loop-done.invariant.current

pub next_word-requires-clause-window : goal.next_word-requires-clause-window
next_word-requires-clause-window g c =
    window_walked c.args.image.now c.args.steps c.loop-done.done c.loop-done.cpu _ _ c.loop-done.invariant.walked
    (limits_of _ _ c.window.ensures.value c.keeps_limits.ensures)

pub next_word-requires-clause-words : goal.next_word-requires-clause-words
next_word-requires-clause-words g c =
    words_walked c.args.image.now c.args.steps c.loop-done.done c.loop-done.cpu _ _ c.loop-done.invariant.walked

pub overflow_add-done-then-ends : goal.overflow_add-done-then-ends
overflow_add-done-then-ends g c =
    record { fits = one_step_more c.args.steps c.loop-done.done c.requires.steps.1 c.loop-done-test.true }
