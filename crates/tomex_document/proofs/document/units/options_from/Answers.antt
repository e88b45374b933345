-- The options are read in order, up to the first fault.
use Rattle.std.proofs.Common.{◌≡◌, ◌<◌, ◌≤◌, ◌+◌, ◌∙◌, ℕ, zero, suc, List, [], ◌∷◌, ◌++◌, length, drop, get_or, Some}
use Rattle.std.proofs.Common.{Ok, Err, add-one, ap, append_assoc, arith, refl, sym}
use Rattle.std.proofs.lemmas.List.{append-nil}
use Rattle.std.proofs.lemmas.Result.{err_from_is_err_and}
use Rattle.toml.specs.Data.{Members, as_table}
use Rattle.toml.specs.View.{view, items_view, table_view}
use Rattle.toml.specs.declared.value.Value.{Value}
use Rattle.tomex_config.specs.Configuration.{most_units}
use Rattle.tomex_config.specs.declared.config.UnitOption.{UnitOption}
use Rattle.tomex_rvdec.specs.declared.pool.UnitId.{UnitId}
use Rattle.tomex_values.specs.declared.error.DocumentError.{DocumentError}
use Rattle.tomex_values.specs.declared.place.Place.TheVariants as place
use Rattle.tomex_values.specs.Readings.{Reading, ◌>>=◌, with_front}
use Rattle.tomex_document.specs.Units.{option_of, options_from}
use Rattle.tomex_document.proofs.document.units.options_from.Goals as goal

one_ahead : {X : Type 0} (front : List X) (x : X) (rest : Reading (List X))
    → with_front front (rest >>= (λ xs. Ok (x ∷ xs))) ≡ with_front (front ++ x ∷ []) rest
one_ahead front x (Err error) = refl
one_ahead front x (Ok xs) = rw append_assoc refl

-- the next option is one more
options_next : (unit : UnitId) (number index : ℕ) (front after : List UnitOption) (values : List Value) (value : Value)
    (table : Members) (option : UnitOption)
    → index < length values → value ≡ get_or values index value → Some table ≡ as_table (view value)
    → option_of (place.Option unit number) (most_units unit) table ≡ Ok option → after ≡ front ++ option ∷ []
    → with_front front (options_from unit number (items_view (drop index values)))
    ≡ with_front after (options_from unit (number + 1) (items_view (drop (suc index) values)))
options_next unit number index front after [] value table option in_range is some done grown =
    absurd (omega (arith, in_range))
options_next unit number zero front after (v ∷ vs) value table option in_range is some done grown =
    rw (← is, ← some, done, grown) (one_ahead front option (options_from unit (number + 1) (items_view vs)))
options_next unit number (suc index) front after (v ∷ vs) value table option in_range is some done grown =
    options_next unit number index front after vs value table option (omega (arith, in_range)) is some done grown

-- the fault of one is the fault of all
options_fault : (unit : UnitId) (number index : ℕ) (front : List UnitOption) (values : List Value) (value : Value)
    (table : Members) (error : DocumentError)
    → index < length values → value ≡ get_or values index value → Some table ≡ as_table (view value)
    → option_of (place.Option unit number) (most_units unit) table ≡ Err error
    → with_front front (options_from unit number (items_view (drop index values))) ≡ Err error
options_fault unit number index front [] value table error in_range is some fault = absurd (omega (arith, in_range))
options_fault unit number zero front (v ∷ vs) value table error in_range is some fault = rw (← is, ← some, fault) refl
options_fault unit number (suc index) front (v ∷ vs) value table error in_range is some fault =
    options_fault unit number index front vs value table error (omega (arith, in_range)) is some fault

-- at the end the front is all
options_end : (unit : UnitId) (number index : ℕ) (front : List UnitOption) (values : List Value)
    → length values ≤ index → with_front front (options_from unit number (items_view (drop index values))) ≡ Ok front
options_end unit number zero front [] past = ap Ok (append-nil front)
options_end unit number (suc index) front [] past = ap Ok (append-nil front)
options_end unit number zero front (v ∷ vs) past = absurd (omega (arith, past))
options_end unit number (suc index) front (v ∷ vs) past =
    options_end unit number index front vs (omega (arith, past))

pub loop-value-preserved : goal.loop-value-preserved
loop-value-preserved g c =
    let table = rw c.in-Some.is at c.as_table.ensures in
    let next = options_next c.args.unit c.loop-value.number c.loop-value.value-index c.loop-value.options.items _
    c.args.values.now c.value-item.result (table_view c.in-Some.table.now) _ c.loop-value-test.true c.value-item.is
    table (sym (rw c.most_units.ensures at c.in_ok-option_of.ensures)) c.in_ok-push.ensures.items in (
      omega (arith, c.loop-value.invariant.0),
      rw (add-one c.loop-value.value-index)
          (sym next ∙ c.loop-value.invariant.1),
    )

pub returns-in_err-option_of : goal.returns-in_err-option_of
returns-in_err-option_of g c =
    let p = err_from_is_err_and c.from_residual.result c.from_residual.ensures.1 in
    let table = rw c.in-Some.is at c.as_table.ensures in
    rw (p.1, p.2) (λ other. sym c.loop-value.invariant.1
    ∙ options_fault c.args.unit c.loop-value.number c.loop-value.value-index c.loop-value.options.items
    c.args.values.now c.value-item.result (table_view c.in-Some.table.now) _ c.loop-value-test.true c.value-item.is
    table (sym (rw c.most_units.ensures at c.in_err-option_of.ensures)))

pub returns : goal.returns
returns g c = sym c.loop-value.invariant.1
    ∙ options_end c.args.unit c.loop-value.number c.loop-value.value-index c.loop-value.options.items
    c.args.values.now c.loop-value-test.false
