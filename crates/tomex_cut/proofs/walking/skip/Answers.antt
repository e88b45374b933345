use Rattle.std.proofs.Common.{ap}
use Rattle.tomex_cut.specs.After.{left_by}
use Rattle.tomex_rvexec.proofs.Stepping.{ended_ends, fault_faults}
use Rattle.tomex_cut.proofs.Walks.{fault_leaves, over}
use Rattle.tomex_cut.proofs.walking.skip.Goals as goal

pub returns-in-Ok-Ended-clause-err : goal.returns-in-Ok-Ended-clause-err
returns-in-Ok-Ended-clause-err g c =
    let ends = ended_ends _ _ c.step.new.self _ _ c.in-Ok-Ended.field-0-is c.in-Ok-Ended.ensures in
    over _ c.loop-done.cpu _ c.loop-done.done _ c.loop-done.invariant (ap (λ o. left_by o c.loop-done.cpu) ends)
    c.loop-done-test.true

pub returns-in-Err-clause-err : goal.returns-in-Err-clause-err
returns-in-Err-clause-err g c =
    let faults = fault_faults _ _ c.step.new.self _ c.in-Err.ensures in
    over _ c.loop-done.cpu _ c.loop-done.done _ c.loop-done.invariant
    (fault_leaves c.loop-done.cpu c.in-Err.fault faults.0 faults.1) c.loop-done-test.true
