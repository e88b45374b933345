-- None issues, one does, or more after it.
use Rattle.tomex_cycle.proofs.Words.{◌≡◌, arith, refl}
use Rattle.tomex_cycle.proofs.IssuesPhase.{phase_fault, phase_more, phase_none, phase_one}
use Rattle.tomex_cycle.proofs.phases.issue.Goals as goal

pub returns-in_err-issue_next-clause-issues : goal.returns-in_err-issue_next-clause-issues
returns-in_err-issue_next-clause-issues g c = λ cycle. phase_fault c.args.fetcher.now c.args.config.now cycle
    c.args.count.now (rw c.in_err-issue_next.was at c.issue_next.ensures.issues)

pub returns-in_err-issue_next-clause-timetable : goal.returns-in_err-issue_next-clause-timetable
returns-in_err-issue_next-clause-timetable g c = c.issue_next.ensures.timetable

pub returns-then-not-branch-clause-issues : goal.returns-then-not-branch-clause-issues
returns-then-not-branch-clause-issues g c = λ cycle. phase_none c.args.fetcher.now c.args.config.now cycle
    c.args.count.now (rw (c.in_ok-issue_next.was, c.if-not-branch.true) at c.issue_next.ensures.issues)

pub returns-then-width-eq1-clause-issues : goal.returns-then-width-eq1-clause-issues
returns-then-width-eq1-clause-issues g c = λ cycle.
    let one : c.args.config.now.width ≡ 1 = omega (arith, c.width.ensures.count, c.if-width-eq1.true) in
    phase_one c.args.fetcher.now c.args.config.now cycle c.args.count.now
    (rw (c.in_ok-issue_next.was, c.if-not-branch.false) at c.issue_next.ensures.issues) refl one

pub returns-then-width-eq1-clause-timetable : goal.returns-then-width-eq1-clause-timetable
returns-then-width-eq1-clause-timetable g c = c.issue_next.ensures.timetable

pub returns-clause-issues : goal.returns-clause-issues
returns-clause-issues g c = λ cycle. phase_more c.args.fetcher.now c.args.config.now cycle c.args.count.now
    (rw (c.in_ok-issue_next.was, c.if-not-branch.false) at c.issue_next.ensures.issues) refl
    (rw c.issue_next.ensures.same at c.issue_more.ensures.issues)

pub returns-clause-timetable : goal.returns-clause-timetable
returns-clause-timetable g c = λ cycle f known. c.issue_more.ensures.timetable cycle f
    (c.issue_next.ensures.timetable cycle f known)
