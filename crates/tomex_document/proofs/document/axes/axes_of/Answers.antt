-- The counts are read first, then the options, up to the first fault.
use Rattle.std.proofs.Common.{refl}
use Rattle.std.proofs.lemmas.Result.{err_from_is_err_and}
use Rattle.tomex_document.specs.Axes.{axes_of}
use Rattle.tomex_values.proofs.Outcomes.{goes_on, stops}
use Rattle.tomex_document.proofs.document.axes.axes_of.Goals as goal

pub returns-in_err-clone : goal.returns-in_err-clone
returns-in_err-clone g c =
    let p = err_from_is_err_and c.from_residual.result c.from_residual.ensures.1 in
    rw (p.1, p.2) (λ other. absurd (other refl))

pub returns-in_err-counts : goal.returns-in_err-counts
unfolding axes_of
returns-in_err-counts g c =
    let p = err_from_is_err_and c.from_residual-in_err-counts.result c.from_residual-in_err-counts.ensures.1 in
    rw (p.1, p.2) (λ other. stops _ _ _ (c.in_err-counts.ensures other))

pub returns-in_err-options : goal.returns-in_err-options
unfolding axes_of
returns-in_err-options g c =
    let p = err_from_is_err_and c.from_residual-in_err-options.result c.from_residual-in_err-options.ensures.1 in
    rw (p.1, p.2) (λ other. goes_on _ _ _ _ c.in_ok-counts.ensures
    (c.in_err-options.ensures _ other))

pub returns : goal.returns
unfolding axes_of
returns g c = goes_on _ _ _ _ c.in_ok-counts.ensures
    (c.in_ok-options.ensures _)
