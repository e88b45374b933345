-- The result is the name, or the refusal by its tests.
use Rattle.std.proofs.Common.{rules, refl}
use Rattle.std.proofs.lemmas.Result.{err_from_is_err_and}
use Rattle.tomex_values.proofs.Outcomes.{stops}
use Rattle.tomex_document.proofs.document.programs.name_at.Goals as goal

pub returns-in_ok-from_str-clause-read : goal.returns-in_ok-from_str-clause-read
unfolding Rattle.tomex_document.specs.Program.name_at
returns-in_ok-from_str-clause-read g c = search rules fits 100

pub returns-in_err-alloc-clause-read : goal.returns-in_err-alloc-clause-read
returns-in_err-alloc-clause-read g c =
    let p = err_from_is_err_and c.from_residual.result c.from_residual.ensures.1 in
    rw (p.1, p.2) (λ other. absurd (other refl))

pub returns-in_err-name-clause-read : goal.returns-in_err-name-clause-read
unfolding Rattle.tomex_document.specs.Program.name_at
returns-in_err-name-clause-read g c =
    let p = err_from_is_err_and c.from_residual-in_err-name.result c.from_residual-in_err-name.ensures.1 in
    rw (p.1, p.2) (λ other. stops _ _ _ c.in_err-name.ensures)

pub returns-in_err-from_str-clause-read : goal.returns-in_err-from_str-clause-read
returns-in_err-from_str-clause-read g c =
    let p = err_from_is_err_and c.from_residual-in_err-from_str.result c.from_residual-in_err-from_str.ensures.1 in
    rw (p.1, p.2) (λ other. absurd (other refl))
