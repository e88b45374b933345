use Rattle.std.proofs.Common.{◌≡◌, ◌+◌, Some, ◌∙◌, arith, ap}
use Rattle.std.specs.Prelude.{if◌then◌else◌}
use Rattle.std.proofs.lemmas.Result.{err_from_is_err_and}
use Rattle.tomex_cut.specs.Part.{Ends, GoesOn, verdict_on}
use Rattle.tomex_rvexec.specs.Trace.{steps_from}
use Rattle.tomex_cut.proofs.Taken.{fault_fails, found_here, found_last, open_more, taken_on, words_of}
use Rattle.tomex_cut.proofs.Walks.{never_ends, part_fails}
use Rattle.tomex_cut.proofs.walking.find_end.Goals as goal
use Rattle.tomex_cut.proofs.walking.find_end.Goals.{else-done-least-via-then-done-least+in_ok-can_end+else-branch}
use Rattle.tomex_cut.proofs.walking.find_end.Goals.{else-done-least-via-else-done-least}

pub returns-in_err-taken-clause-err : goal.returns-in_err-taken-clause-err
returns-in_err-taken-clause-err g c =
    let p = err_from_is_err_and c.from_residual.result c.from_residual.ensures.1 in
    let walk = c.loop-done.invariant in
    rw (p.1, p.2) (fault_fails _ c.loop-done.cpu c.args.least c.loop-done.done _ _ _ c.in_err-taken.field-0.0
    walk.walked walk.going c.requires.least.1 c.loop-done-test.true
    c.in_err-taken.ensures.err c.in_err-taken.ensures.faults)

pub returns-then-taken-clause-ok : goal.returns-then-taken-clause-ok
returns-then-taken-clause-ok g c =
    let walk = c.loop-done.invariant in
    found_last _ _ _ _ c.take_step.new.cpu _ _ _ _ _ _ _ _ c.requires.image.0 c.requires.image.1 walk.walked walk.going
    c.requires.least.1 c.loop-done-test.true c.in_ok-taken.ensures.ok c.if-taken.true

pub can_end-requires-clause-state : goal.can_end-requires-clause-state
can_end-requires-clause-state g c =
    (taken_on _ _ _ _ c.take_step.new.cpu _ _ c.take_step.new.words.base _ _ _ _ _ c.requires.image.0 c.requires.image.1
    c.loop-done.invariant.walked c.in_ok-taken.ensures.ok c.if-taken.false c.in_ok-taken.ensures.base).keeps.state

pub can_end-requires-clause-window : goal.can_end-requires-clause-window
can_end-requires-clause-window g c =
    let on = taken_on _ _ _ _ c.take_step.new.cpu _ _ c.take_step.new.words.base _ _ _ _ _ c.requires.image.0
    c.requires.image.1 c.loop-done.invariant.walked c.in_ok-taken.ensures.ok c.if-taken.false
    c.in_ok-taken.ensures.base in
    rw (on.keeps.image) c.requires.window

pub can_end-requires-clause-words : goal.can_end-requires-clause-words
can_end-requires-clause-words g c =
    let on = taken_on _ _ _ _ c.take_step.new.cpu _ _ c.take_step.new.words.base _ _ _ _ _ c.requires.image.0
    c.requires.image.1 c.loop-done.invariant.walked c.in_ok-taken.ensures.ok c.if-taken.false
    c.in_ok-taken.ensures.base in
    words_of _ _ _ _ _ _ on.keeps c.requires.words.words (c.in_ok-taken.ensures.base ∙ c.loop-done.invariant.base)
    (c.in_ok-taken.ensures.count ∙ c.loop-done.invariant.count)

pub returns-in_err-can_end-clause-err : goal.returns-in_err-can_end-clause-err
returns-in_err-can_end-clause-err g c =
    let p = err_from_is_err_and c.from_residual-in_err-can_end.result c.from_residual-in_err-can_end.ensures.1 in
    let n = c.loop-done.done + 1 in
    let on = taken_on _ _ _ _ c.take_step.new.cpu _ _ c.take_step.new.words.base _ _ _ _ _ c.requires.image.0
    c.requires.image.1 c.loop-done.invariant.walked c.in_ok-taken.ensures.ok c.if-taken.false
    c.in_ok-taken.ensures.base in
    let fails = ap (λ r. verdict_on r (steps_from n c.args.cpu.now)) on.reached
    ∙ c.in_err-can_end.ensures.err (steps_from n c.args.cpu.now) in
    rw (p.1, p.2) (part_fails c.args.cpu.now c.args.least n c.in_err-can_end.field-0.0 c.if-done-least.true
    (omega arith) c.loop-done.invariant.going fails)

pub returns-then-branch-clause-ok : goal.returns-then-branch-clause-ok
returns-then-branch-clause-ok g c =
    let n = c.loop-done.done + 1 in
    let on = taken_on _ _ _ _ c.take_step.new.cpu _ _ c.take_step.new.words.base _ _ _ _ _ c.requires.image.0
    c.requires.image.1 c.loop-done.invariant.walked c.in_ok-taken.ensures.ok c.if-taken.false
    c.in_ok-taken.ensures.base in
    let ends = c.in_ok-can_end.ensures.ok (steps_from n c.args.cpu.now) on.used
    ∙ ap (λ b. if b then Ends (Some c.take_step.new.cpu.pc) else GoesOn) c.if-branch.true in
    rw (c.pc.ensures) (found_here _ _ _ _ _ _ _ _ on c.loop-done.invariant.going c.if-done-least.true
    (omega arith) ends)

pub loop-done-preserved : goal.loop-done-preserved
loop-done-preserved g c =
    let n = c.loop-done.done + 1 in
    let on = taken_on _ _ _ _ c.take_step.new.cpu _ _ c.take_step.new.words.base _ _ _ _ _ c.requires.image.0
    c.requires.image.1 c.loop-done.invariant.walked c.in_ok-taken.ensures.ok c.if-taken.false
    c.in_ok-taken.ensures.base in
    record {
      walked = on;
      base = c.in_ok-taken.ensures.base ∙ c.loop-done.invariant.base;
      count = c.in_ok-taken.ensures.count ∙ c.loop-done.invariant.count;
      going = open_more _ _ _ c.loop-done.invariant.going (λ asked. elim c.else-done-least.branch [
        | else-done-least-via-then-done-least+in_ok-can_end+else-branch w ↦
            ap (λ r. verdict_on r (steps_from n c.args.cpu.now)) on.reached
            ∙ (w.in_ok-can_end.ensures.ok (steps_from n c.args.cpu.now) on.used
            ∙ ap (λ b. if b then Ends (Some c.take_step.new.cpu.pc) else GoesOn) w.if-branch.false)
        | else-done-least-via-else-done-least w ↦ absurd (omega (arith, w.if-done-least.false))
      ]);
    }

pub returns-clause-err : goal.returns-clause-err
returns-clause-err g c =
    let all : c.loop-done.done ≡ 262079 = omega arith in
    never_ends c.args.cpu.now c.args.least c.requires.least.1 (rw all at c.loop-done.invariant.going)
