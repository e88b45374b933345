-- The options are read kind by kind, up to the first fault.
use Rattle.std.proofs.Common.{refl}
use Rattle.std.proofs.lemmas.Result.{err_from_is_err_and}
use Rattle.tomex_values.proofs.Outcomes.{goes_on, stops}
use Rattle.tomex_document.proofs.document.axes.unit_options.Goals as goal

pub returns-in_err-tables : goal.returns-in_err-tables
returns-in_err-tables g c =
    let p = err_from_is_err_and c.from_residual.result c.from_residual.ensures.1 in
    rw (p.1, p.2) (λ whole other. stops _ _ _ c.in_err-tables.ensures)

pub returns-in_err-alu : goal.returns-in_err-alu
returns-in_err-alu g c =
    let p = err_from_is_err_and c.from_residual-in_err-alu.result c.from_residual-in_err-alu.ensures.1 in
    rw (p.1, p.2) (λ whole other. goes_on _ _ _ _ c.in_ok-tables.ensures
    (stops _ _ _ (c.in_err-alu.ensures other)))

pub returns-in_err-mul : goal.returns-in_err-mul
returns-in_err-mul g c =
    let p = err_from_is_err_and c.from_residual-in_err-mul.result c.from_residual-in_err-mul.ensures.1 in
    rw (p.1, p.2) (λ whole other. goes_on _ _ _ _ c.in_ok-tables.ensures
    (goes_on _ _ _ _ c.in_ok-alu.ensures
    (stops _ _ _ (c.in_err-mul.ensures other))))

pub returns-in_err-div : goal.returns-in_err-div
returns-in_err-div g c =
    let p = err_from_is_err_and c.from_residual-in_err-div.result c.from_residual-in_err-div.ensures.1 in
    rw (p.1, p.2) (λ whole other. goes_on _ _ _ _ c.in_ok-tables.ensures
    (goes_on _ _ _ _ c.in_ok-alu.ensures
    (goes_on _ _ _ _ c.in_ok-mul.ensures
    (stops _ _ _ (c.in_err-div.ensures other)))))

pub returns-in_err-mem : goal.returns-in_err-mem
returns-in_err-mem g c =
    let p = err_from_is_err_and c.from_residual-in_err-mem.result c.from_residual-in_err-mem.ensures.1 in
    rw (p.1, p.2) (λ whole other. goes_on _ _ _ _ c.in_ok-tables.ensures
    (goes_on _ _ _ _ c.in_ok-alu.ensures
    (goes_on _ _ _ _ c.in_ok-mul.ensures
    (goes_on _ _ _ _ c.in_ok-div.ensures
    (stops _ _ _ (c.in_err-mem.ensures other))))))

pub returns-in_err-bru : goal.returns-in_err-bru
returns-in_err-bru g c =
    let p = err_from_is_err_and c.from_residual-in_err-bru.result c.from_residual-in_err-bru.ensures.1 in
    rw (p.1, p.2) (λ whole other. goes_on _ _ _ _ c.in_ok-tables.ensures
    (goes_on _ _ _ _ c.in_ok-alu.ensures
    (goes_on _ _ _ _ c.in_ok-mul.ensures
    (goes_on _ _ _ _ c.in_ok-div.ensures
    (goes_on _ _ _ _ c.in_ok-mem.ensures
    (stops _ _ _ (c.in_err-bru.ensures other)))))))

pub returns : goal.returns
returns g c whole = goes_on _ _ _ _ c.in_ok-tables.ensures
    (goes_on _ _ _ _ c.in_ok-alu.ensures
    (goes_on _ _ _ _ c.in_ok-mul.ensures
    (goes_on _ _ _ _ c.in_ok-div.ensures
    (goes_on _ _ _ _ c.in_ok-mem.ensures
    (goes_on _ _ _ _ c.in_ok-bru.ensures refl)))))
