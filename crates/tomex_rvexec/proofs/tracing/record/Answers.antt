-- A step continues, ends the run or faults, and is the next one of the run's list.
use Rattle.std.proofs.Common.{◌≡◌, ◌++◌, ◌∙◌, ap, subst, sym, arith}
use Rattle.std.proofs.lemmas.List.{length_push}
use Rattle.tomex_rvexec.specs.Machine.{Goes, State, step_of}
use Rattle.tomex_rvexec.specs.Run.{Leads}
use Rattle.tomex_rvexec.proofs.Stepping.{ended_ends, ends_here, fault_faults, kept, next_goes, leads_on}
use Rattle.tomex_rvexec.proofs.tracing.record.Goals as goal

pub returns-in-Ended-clause-ok : goal.returns-in-Ended-clause-ok
returns-in-Ended-clause-ok g c =
    let r = c.in-Ok.ensures.ok in
    let end = ended_ends _ _ c.record_step.new.self _ _ c.in-Ended.is r.1 in
    c.in_ok-push.ensures.items ∙ (ap (λ rest. c.loop-done.steps.items ++ rest)
    (sym (ends_here _ _ _ c.loop-done-test.true r.0 end)) ∙ c.loop-done.invariant.steps)

pub returns-in-Ended-clause-few : goal.returns-in-Ended-clause-few
returns-in-Ended-clause-few g c =
    let grown = length_push c.loop-done.steps.items c.in-Ok.done.0 in
    rw c.in_ok-push.ensures.items (omega arith)

pub returns-in-Ended-clause-ends : goal.returns-in-Ended-clause-ends
returns-in-Ended-clause-ends g c = (
  c.loop-done._done,
  c.loop-done.cpu,
  c.in-Ended.field-0,
  c.loop-done-test.true,
  record {
    leads = subst (λ (s : State). Leads s c.loop-done._done c.loop-done.cpu) c.requires.start
        c.loop-done.invariant.leads;
    ends = ended_ends _ _ c.record_step.new.self _ _ c.in-Ended.is c.in-Ok.ensures.ok.1;
  },
)

pub returns-in-Err-clause-err : goal.returns-in-Err-clause-err
returns-in-Err-clause-err g c =
    let faults = fault_faults _ _ c.record_step.new.self _ c.in-Err.ensures.err in (
      c.loop-done._done,
      c.loop-done.cpu,
      c.loop-done-test.true,
      record {
        leads = subst (λ (s : State). Leads s c.loop-done._done c.loop-done.cpu) c.requires.start
            c.loop-done.invariant.leads;
        faults = faults.0;
      },
      faults.1,
    )

pub returns-clause-err : goal.returns-clause-err
returns-clause-err g c =
    let all : c.loop-done._done ≡ c.args.limit = omega arith in (
      c.loop-done.cpu,
      subst (λ (s : State). Leads s c.args.limit c.loop-done.cpu) c.requires.start
          (rw all at c.loop-done.invariant.leads),
    )

pub loop-done-preserved : goal.loop-done-preserved
loop-done-preserved g c =
    let r = c.in-Ok.ensures.ok in
    let next : step_of c.loop-done.cpu ≡ Goes c.record_step.new.self = next_goes _ _ _ _ c.in_default.is r.1 in
    let p = c.in_ok-push.ensures.items in
    record {
      leads = leads_on _ _ _ _ c.loop-done.invariant.leads next;
      count = rw (p, ← c.loop-done.invariant.count) (length_push c.loop-done.steps.items c.in-Ok.done.0);
      steps = rw p (kept _ _ _ _ c.loop-done-test.true r.0 next c.loop-done.invariant.steps);
    }
