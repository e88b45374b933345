-- The counts are read in order, up to the first fault.
use Rattle.std.proofs.Common.{refl, sym}
use Rattle.std.proofs.lemmas.Result.{err_from_is_err_and}
use Rattle.tomex_document.specs.Axes.{axis_counts}
use Rattle.tomex_values.proofs.Outcomes.{goes_on, stops}
use Rattle.tomex_document.proofs.document.axes.axis_counts.Goals as goal

pub returns-in_err-mul : goal.returns-in_err-mul
unfolding axis_counts
returns-in_err-mul g c =
    let p = err_from_is_err_and c.from_residual-in_err-mul.result c.from_residual-in_err-mul.ensures.1 in
    let known = sym (rw c.as_slice.ensures at c.in_ok-known_keys.ensures) in
    rw (p.1, p.2) (λ other. goes_on _ _ _ _ known
    (goes_on _ _ _ _ c.in_ok-alu.ensures (stops _ _ _ (c.in_err-mul.ensures other))))

pub returns-in_err-div : goal.returns-in_err-div
unfolding axis_counts
returns-in_err-div g c =
    let p = err_from_is_err_and c.from_residual-in_err-div.result c.from_residual-in_err-div.ensures.1 in
    let known = sym (rw c.as_slice.ensures at c.in_ok-known_keys.ensures) in
    rw (p.1, p.2) (λ other. goes_on _ _ _ _ known
    (goes_on _ _ _ _ c.in_ok-alu.ensures
    (goes_on _ _ _ _ c.in_ok-mul.ensures (stops _ _ _ (c.in_err-div.ensures other)))))

pub returns-in_err-load : goal.returns-in_err-load
unfolding axis_counts
returns-in_err-load g c =
    let p = err_from_is_err_and c.from_residual-in_err-load.result c.from_residual-in_err-load.ensures.1 in
    let known = sym (rw c.as_slice.ensures at c.in_ok-known_keys.ensures) in
    rw (p.1, p.2) (λ other. goes_on _ _ _ _ known
    (goes_on _ _ _ _ c.in_ok-alu.ensures
    (goes_on _ _ _ _ c.in_ok-mul.ensures
    (goes_on _ _ _ _ c.in_ok-div.ensures (stops _ _ _ (c.in_err-load.ensures other))))))

pub returns-in_err-store : goal.returns-in_err-store
unfolding axis_counts
returns-in_err-store g c =
    let p = err_from_is_err_and c.from_residual-in_err-store.result c.from_residual-in_err-store.ensures.1 in
    let known = sym (rw c.as_slice.ensures at c.in_ok-known_keys.ensures) in
    rw (p.1, p.2) (λ other. goes_on _ _ _ _ known
    (goes_on _ _ _ _ c.in_ok-alu.ensures
    (goes_on _ _ _ _ c.in_ok-mul.ensures
    (goes_on _ _ _ _ c.in_ok-div.ensures
    (goes_on _ _ _ _ c.in_ok-load.ensures (stops _ _ _ (c.in_err-store.ensures other)))))))

pub returns-in_err-bru : goal.returns-in_err-bru
unfolding axis_counts
returns-in_err-bru g c =
    let p = err_from_is_err_and c.from_residual-in_err-bru.result c.from_residual-in_err-bru.ensures.1 in
    let known = sym (rw c.as_slice.ensures at c.in_ok-known_keys.ensures) in
    rw (p.1, p.2) (λ other. goes_on _ _ _ _ known
    (goes_on _ _ _ _ c.in_ok-alu.ensures
    (goes_on _ _ _ _ c.in_ok-mul.ensures
    (goes_on _ _ _ _ c.in_ok-div.ensures
    (goes_on _ _ _ _ c.in_ok-load.ensures
    (goes_on _ _ _ _ c.in_ok-store.ensures (stops _ _ _ (c.in_err-bru.ensures other))))))))

pub returns-in_err-buses : goal.returns-in_err-buses
unfolding axis_counts
returns-in_err-buses g c =
    let p = err_from_is_err_and c.from_residual-in_err-buses.result c.from_residual-in_err-buses.ensures.1 in
    let known = sym (rw c.as_slice.ensures at c.in_ok-known_keys.ensures) in
    rw (p.1, p.2) (λ other. goes_on _ _ _ _ known
    (goes_on _ _ _ _ c.in_ok-alu.ensures
    (goes_on _ _ _ _ c.in_ok-mul.ensures
    (goes_on _ _ _ _ c.in_ok-div.ensures
    (goes_on _ _ _ _ c.in_ok-load.ensures
    (goes_on _ _ _ _ c.in_ok-store.ensures
    (goes_on _ _ _ _ c.in_ok-bru.ensures (stops _ _ _ (c.in_err-buses.ensures other)))))))))

pub returns-in_err-width : goal.returns-in_err-width
unfolding axis_counts
returns-in_err-width g c =
    let p = err_from_is_err_and c.from_residual-in_err-width.result c.from_residual-in_err-width.ensures.1 in
    let known = sym (rw c.as_slice.ensures at c.in_ok-known_keys.ensures) in
    rw (p.1, p.2) (λ other. goes_on _ _ _ _ known
    (goes_on _ _ _ _ c.in_ok-alu.ensures
    (goes_on _ _ _ _ c.in_ok-mul.ensures
    (goes_on _ _ _ _ c.in_ok-div.ensures
    (goes_on _ _ _ _ c.in_ok-load.ensures
    (goes_on _ _ _ _ c.in_ok-store.ensures
    (goes_on _ _ _ _ c.in_ok-bru.ensures
    (goes_on _ _ _ _ c.in_ok-buses.ensures (stops _ _ _ (c.in_err-width.ensures other))))))))))

pub returns-in_err-known_keys : goal.returns-in_err-known_keys
unfolding axis_counts
returns-in_err-known_keys g c =
    let p = err_from_is_err_and c.from_residual.result c.from_residual.ensures.1 in
    rw (p.1, p.2) (λ other. stops _ _ _ (sym (rw c.as_slice.ensures at c.in_err-known_keys.ensures)))

pub returns-in_err-alu : goal.returns-in_err-alu
unfolding axis_counts
returns-in_err-alu g c =
    let p = err_from_is_err_and c.from_residual-in_err-alu.result c.from_residual-in_err-alu.ensures.1 in
    let known = sym (rw c.as_slice.ensures at c.in_ok-known_keys.ensures) in
    rw (p.1, p.2) (λ other. goes_on _ _ _ _ known (stops _ _ _ (c.in_err-alu.ensures other)))

pub returns : goal.returns
unfolding axis_counts
returns g c =
    let known = sym (rw c.as_slice.ensures at c.in_ok-known_keys.ensures) in
    goes_on _ _ _ _ known
    (goes_on _ _ _ _ c.in_ok-alu.ensures
    (goes_on _ _ _ _ c.in_ok-mul.ensures
    (goes_on _ _ _ _ c.in_ok-div.ensures
    (goes_on _ _ _ _ c.in_ok-load.ensures
    (goes_on _ _ _ _ c.in_ok-store.ensures
    (goes_on _ _ _ _ c.in_ok-bru.ensures
    (goes_on _ _ _ _ c.in_ok-buses.ensures (goes_on _ _ _ _ c.in_ok-width.ensures refl))))))))
