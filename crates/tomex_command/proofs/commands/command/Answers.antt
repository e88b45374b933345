-- A line that was read is done, or its failure is reported.
use Rattle.std.proofs.Common.{inl, inr, refl}
use Rattle.tomex_command.proofs.commands.command.Goals as goal

pub returns-in-Ok-carry_out-clause-end : goal.returns-in-Ok-carry_out-clause-end
returns-in-Ok-carry_out-clause-end g c =
    inr (inl (record {
      line = c.in-Ok.line;
      asked = c.in-Ok.ensures.asked;
      carried_out = c.in-Ok-carry_out.ensures.done;
      status_is = refl;
      nothing_said = refl;
    }))

pub returns-in-Err-carry_out-clause-end : goal.returns-in-Err-carry_out-clause-end
returns-in-Err-carry_out-clause-end g c =
    inr (inr (record {
      line = c.in-Ok.line;
      asked = c.in-Ok.ensures.asked;
      failure = c.in-Err-carry_out.failure;
      left = c.in-Err-carry_out.ensures.left;
      reported = c.report_failure-status.ensures;
    }))
