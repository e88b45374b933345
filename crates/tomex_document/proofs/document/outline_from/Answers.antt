-- The programs are read first, then the prices and the axes, up to the first fault.
use Rattle.std.proofs.Common.{refl, arith}
use Rattle.std.proofs.lemmas.Grind.{common_steps}
use Rattle.std.proofs.lemmas.Result.{err_from_is_err_and}
use Rattle.tomex_values.proofs.Outcomes.{goes_on, stops}
use Rattle.tomex_document.proofs.document.outline_from.Goals as goal

pub returns-in_err-clone : goal.returns-in_err-clone
returns-in_err-clone g c =
    let p = err_from_is_err_and c.from_residual.result c.from_residual.ensures.1 in
    rw (p.1, p.2) (λ other. absurd (other refl))

pub returns-in_err-programs : goal.returns-in_err-programs
returns-in_err-programs g c =
    let p = err_from_is_err_and c.from_residual-in_err-programs.result c.from_residual-in_err-programs.ensures.1 in
    rw (p.1, p.2) (λ other. stops _ _ _ (c.in_err-programs.ensures other))

pub returns-in_err-prices : goal.returns-in_err-prices
returns-in_err-prices g c =
    let p = err_from_is_err_and c.from_residual-in_err-prices.result c.from_residual-in_err-prices.ensures.1 in
    rw (p.1, p.2) (λ other. goes_on _ _ _ _ c.in_ok-programs.ensures (stops _ _ _ c.in_err-prices.ensures))

pub returns-in_err-axes : goal.returns-in_err-axes
returns-in_err-axes g c =
    let p = err_from_is_err_and c.from_residual-in_err-axes.result c.from_residual-in_err-axes.ensures.1 in
    rw (p.1, p.2) (λ other. goes_on _ _ _ _ c.in_ok-programs.ensures
    (goes_on _ _ _ _ c.in_ok-prices.ensures (stops _ _ _ (c.in_err-axes.ensures other))))

pub returns-then-is_too_large : goal.returns-then-is_too_large
returns-then-is_too_large g c = λ other. goes_on _ _ _ _ c.in_ok-programs.ensures
    (goes_on _ _ _ _ c.in_ok-prices.ensures
    (goes_on _ _ _ _ c.in_ok-axes.ensures (rw (rw c.is_too_large.ensures at c.if-is_too_large.true) refl)))

pub returns-else-is_too_large : goal.returns-else-is_too_large
returns-else-is_too_large = grind (arith, common_steps)
