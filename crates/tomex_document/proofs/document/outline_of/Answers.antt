-- The top is read first, up to the first fault, and then its tables.
use Rattle.std.proofs.Common.{◌≡◌, Ok, sym, arith}
use Rattle.std.proofs.lemmas.Grind.{common_steps}
use Rattle.std.proofs.lemmas.Result.{err_from_is_err_and}
use Rattle.tomex_document.specs.Document.{outline_of}
use Rattle.tomex_values.proofs.Outcomes.{goes_on, stops}
use Rattle.tomex_values.specs.Readings.{Gives, Reading, ◌>>=◌}
use Rattle.tomex_document.proofs.document.outline_of.Goals as goal

-- the whole gives what the rest gives
rest_gives : {X Y Z : Type 0} (view : Z → Y) (result : Reading Z) {reading : Reading X} (next : X → Reading Y) {x : X}
    → reading ≡ Ok x → Gives view result (next x) → Gives view result (reading >>= next)
rest_gives view result next given rest = rw given rest

pub returns : goal.returns
unfolding outline_of
returns g c =
    let known = sym (rw c.as_slice.ensures at c.in_ok-known_keys.ensures) in
    rest_gives _ _ _ known
    (rest_gives _ _ _ c.in_ok-tables.ensures.read
    (rest_gives _ _ _ c.in_ok-price_table.ensures
    (rest_gives _ _ _ c.in_ok-axis_table.ensures (rest_gives _ _ _ c.in_ok-unit.ensures c.outline_from.ensures))))

pub returns-in_err-tables : goal.returns-in_err-tables
unfolding outline_of
returns-in_err-tables g c =
    let p = err_from_is_err_and c.from_residual-in_err-tables.result c.from_residual-in_err-tables.ensures.1 in
    let known = sym (rw c.as_slice.ensures at c.in_ok-known_keys.ensures) in
    rw (p.1, p.2) (λ other. goes_on _ _ _ _ known (stops _ _ _ c.in_err-tables.ensures.read))

pub returns-in_err-price_table : goal.returns-in_err-price_table
unfolding outline_of
returns-in_err-price_table g c =
    let p = err_from_is_err_and c.from_residual-in_err-price_table.result c.from_residual-in_err-price_table.ensures.1
    in
    let known = sym (rw c.as_slice.ensures at c.in_ok-known_keys.ensures) in
    rw (p.1, p.2) (λ other. goes_on _ _ _ _ known
    (goes_on _ _ _ _ c.in_ok-tables.ensures.read (stops _ _ _ c.in_err-price_table.ensures)))

pub returns-in_err-axis_table : goal.returns-in_err-axis_table
unfolding outline_of
returns-in_err-axis_table g c =
    let p = err_from_is_err_and c.from_residual-in_err-axis_table.result c.from_residual-in_err-axis_table.ensures.1 in
    let known = sym (rw c.as_slice.ensures at c.in_ok-known_keys.ensures) in
    rw (p.1, p.2) (λ other. goes_on _ _ _ _ known
    (goes_on _ _ _ _ c.in_ok-tables.ensures.read
    (goes_on _ _ _ _ c.in_ok-price_table.ensures (stops _ _ _ c.in_err-axis_table.ensures))))

pub returns-in_err-unit : goal.returns-in_err-unit
unfolding outline_of
returns-in_err-unit g c =
    let p = err_from_is_err_and c.from_residual-in_err-unit.result c.from_residual-in_err-unit.ensures.1 in
    let known = sym (rw c.as_slice.ensures at c.in_ok-known_keys.ensures) in
    rw (p.1, p.2) (λ other. goes_on _ _ _ _ known
    (goes_on _ _ _ _ c.in_ok-tables.ensures.read
    (goes_on _ _ _ _ c.in_ok-price_table.ensures
    (goes_on _ _ _ _ c.in_ok-axis_table.ensures (stops _ _ _ c.in_err-unit.ensures)))))

pub returns-in_err-known_keys : goal.returns-in_err-known_keys
unfolding outline_of
returns-in_err-known_keys g c =
    let p = err_from_is_err_and c.from_residual.result c.from_residual.ensures.1 in
    rw (p.1, p.2) (λ other. stops _ _ _ (sym (rw c.as_slice.ensures at c.in_err-known_keys.ensures)))

pub outline_from-requires : goal.outline_from-requires
outline_from-requires = grind (arith, common_steps)

pub table_at-requires-2 : goal.table_at-requires-2
table_at-requires-2 = grind (arith, common_steps)

pub table_at-requires-3 : goal.table_at-requires-3
table_at-requires-3 = grind (arith, common_steps)

pub table_at-requires : goal.table_at-requires
table_at-requires = grind (arith, common_steps)
