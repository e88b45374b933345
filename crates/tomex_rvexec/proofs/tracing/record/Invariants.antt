use Rattle.std.proofs.Common.{◌≡◌, ◌-◌, ◌++◌, length}
use Rattle.tomex_rvexec.specs.Run.{Leads}
use Rattle.tomex_rvexec.specs.Trace.{steps_from}
use Rattle.tomex_rvexec.proofs.tracing.record.Given as goal

abbrev pub invariant-loop-done : goal.invariant-loop-done
invariant-loop-done g l = record {
  leads : Leads l.fn.cpu l._done l.cpu;
  count : length l.steps.items ≡ l._done;
  steps : l.steps.items ++ steps_from (l.limit - l._done) l.cpu ≡ steps_from l.limit l.fn.cpu;
}
