use Rattle.tomex_cycle.proofs.Words.{◌∙◌, ap, stop_of}
use Rattle.tomex_cycle.proofs.Outer.{is_over_at}
use Rattle.tomex_cycle.proofs.inner.Inner.into_end.Goals as goal

pub returns : goal.returns
returns g c = record {
  ends = λ i config n t run shot done.
      let over = is_over_at t c.args.self run shot done in
      let e = c.stop-kind.ensures ∙ ap stop_of over.stopped in (
        n,
        run.state,
        run.few,
        rw (ap (λ x. x.0) e) run.ends,
        over.steps,
        ap (λ x. x.1) e,
        over.regs,
        over.base,
        over.bytes,
      );
}
