-- The ranges are read in order, up to the first fault.
use Rattle.std.proofs.Common.{◌≡◌, true, rules, sym}
use Rattle.std.proofs.lemmas.List.Elements.{All-push}
use Rattle.std.proofs.lemmas.Result.{err_from_is_err_and}
use Rattle.tomex_study.specs.Watch.{is_watchable}
use Rattle.tomex_document.specs.Watch.{range_of}
use Rattle.tomex_values.proofs.Items.{each_end, each_fault, each_next}
use Rattle.tomex_document.proofs.document.watch.each_range.Goals as goal

pub returns-in_err-range_of-clause-read : goal.returns-in_err-range_of-clause-read
returns-in_err-range_of-clause-read g c =
    let p = err_from_is_err_and c.from_residual.result c.from_residual.ensures.1 in
    rw (p.1, p.2) (λ other. each_fault (range_of c.args.place c.args.window) _ _ _ c.loop-value-test.true
    c.value-item.is (sym c.in_err-range_of.ensures.read) c.loop-value.invariant.0)

pub loop-value-preserved : goal.loop-value-preserved
loop-value-preserved g c = (
  each_next (range_of c.args.place c.args.window) _ _ _ c.loop-value-test.true c.value-item.is
      (sym c.in_ok-range_of.ensures.read) c.in_ok-push.ensures.items c.loop-value.invariant.0,
  search rules,
  rw c.in_ok-push.ensures.items (All-push (λ r. is_watchable c.args.window r ≡ true) _ _ c.loop-value.invariant.2
      c.in_ok-range_of.ensures.inside),
)

pub returns-clause-read : goal.returns-clause-read
returns-clause-read g c = each_end (range_of c.args.place c.args.window) _ _ _ _ c.loop-value-test.false
    c.loop-value.invariant.0
