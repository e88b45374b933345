-- The first issue is made; each turn makes one more, or finds that it can't be made.
use Rattle.tomex_cycle.proofs.Words.{front, ◌∙◌, ◌<◌, ◌≤◌, arith, refl, sym}
use Rattle.tomex_cycle.proofs.IssuesPhase.{on_first, on_full, on_more, on_wait, one_is}
use Rattle.tomex_cycle.proofs.issue.issue_more.Goals as goal

pub issues-init : goal.issues-init
issues-init g c = record {
  on = on_first c.args.fetcher.now c.args.config.now c.args.count.now
      (front c.args.pools.now c.args.registers.now c.args.fetch.now);
  known = λ f next known. known;
  same = refl;
}

pub issues-preserved : goal.issues-preserved
issues-preserved g c =
    let less : c.issues.made < c.args.config.now.width = omega (arith, c.width-width.ensures.count, c.issues-test.true)
    in
    let made = one_is c.issue_next.result (sym c.unwrap_or-more.ensures ∙ c.if-not-more.false) in
    record {
      on = on_more c.args.fetcher.now c.args.config.now c.args.count.now c.issues.made c.issues.count
          c.issues.invariant.on less (rw (c.issues.invariant.same, made) at c.issue_next.ensures.issues) refl;
      known = λ next f known. c.issue_next.ensures.timetable next f (c.issues.invariant.known next f known);
      same = c.issue_next.ensures.same ∙ c.issues.invariant.same;
    }

pub returns-then-not-more-clause-issues : goal.returns-then-not-more-clause-issues
returns-then-not-more-clause-issues g c =
    let less : c.issues.made < c.args.config.now.width = omega (arith, c.width-width.ensures.count, c.issues-test.true)
    in
    on_wait c.args.fetcher.now c.args.config.now c.args.count.now c.issues.made c.issue_next.result
    c.issues.invariant.on less
    (rw c.issues.invariant.same at c.issue_next.ensures.issues) (sym c.unwrap_or-more.ensures ∙ c.if-not-more.true)

pub returns-then-not-more-clause-timetable : goal.returns-then-not-more-clause-timetable
returns-then-not-more-clause-timetable g c =
    λ next f known. c.issue_next.ensures.timetable next f (c.issues.invariant.known next f known)

pub returns-clause-issues : goal.returns-clause-issues
returns-clause-issues g c =
    let most : c.args.config.now.width ≤ c.issues.made = omega (arith, c.width-width.ensures.count, c.issues-test.false)
    in
    on_full c.args.fetcher.now c.args.config.now c.args.count.now c.issues.made c.issues.count
    c.issues.invariant.on most
