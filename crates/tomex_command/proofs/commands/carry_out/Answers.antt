-- Short searches, so that a wrong body is refused soon.
use Rattle.std.proofs.lemmas.Result.{err_from_is_err_and}
use Rattle.tomex_command.proofs.Left.{is_fit, nothing_left}
use Rattle.tomex_command.proofs.commands.carry_out.Goals as goal

pub returns-in_err-text-clause-left : goal.returns-in_err-text-clause-left
returns-in_err-text-clause-left g c =
    let p = err_from_is_err_and c.from_residual.result c.from_residual.ensures.1 in
    let fits = is_fit _ _ _ c.args.line c.is_unfit.ensures c.is_terminal.ensures c.if-is_unfit.false in
    rw (p.1) (nothing_left _ _ c.args.line _ p.0 _ fits c.in_err-text.ensures.failure p.2)

pub returns-in-Ok-clause-done : goal.returns-in-Ok-clause-done
returns-in-Ok-clause-done g c = record {
  fits = is_fit _ _ _ c.args.line c.is_unfit.ensures c.is_terminal.ensures c.if-is_unfit.false;
  text = c.in_ok-text.text.items;
  is_done = c.in_ok-text.ensures.text;
  written = (rw (c.as_slice.ensures.value) at c.in-Ok.ensures.all, c.in-Ok.ensures.no_fault);
}

pub returns-clause-left : goal.returns-clause-left
returns-clause-left g c = record {
  fits = is_fit _ _ _ c.args.line c.is_unfit.ensures c.is_terminal.ensures c.if-is_unfit.false;
  text = c.in_ok-text.text.items;
  is_done = c.in_ok-text.ensures.text;
  cut = record {
    count = c.in-Err.field-0.written;
    part = rw (c.as_slice.ensures.value) at c.in-Err.ensures.short;
    taken = rw (c.as_slice.ensures.value) at c.in-Err.ensures.first;
    fault = c.in-Err.ensures.fault;
  };
}
