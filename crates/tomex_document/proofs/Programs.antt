-- The programs of a study, read one after another.
use Rattle.std.proofs.Common.{◌≡◌, ◌<◌, ◌≤◌, ◌+◌, ℕ, zero, suc, List, [], ◌∷◌, ◌++◌, length, drop, get_or, Some}
use Rattle.std.proofs.Common.{Ok, Err, refl, arith}
use Rattle.toml.specs.Data.{Members, as_table}
use Rattle.toml.specs.View.{view, items_view}
use Rattle.toml.specs.declared.value.Value.{Value}
use Rattle.tomex_values.specs.declared.error.DocumentError.{DocumentError}
use Rattle.tomex_values.specs.declared.place.Place.TheVariants as place
use Rattle.tomex_document.specs.Program.{ProgramEntry, program_of, programs_of}

-- a fault of the next program is the fault of them all
pub programs_of-fault : (number index : ℕ) (earlier : List ProgramEntry) (values : List Value) (value : Value)
    (table : Members) (error : DocumentError)
    → index < length values → value ≡ get_or values index value → Some table ≡ as_table (view value)
    → program_of (place.Program number) earlier table ≡ Err error
    → programs_of number earlier (items_view (drop index values)) ≡ Err error
programs_of-fault number index earlier [] value table error in_range is some fault = absurd (omega (arith, in_range))
programs_of-fault number zero earlier (v ∷ vs) value table error in_range is some fault = rw (← is, ← some, fault) refl
programs_of-fault number (suc index) earlier (v ∷ vs) value table error in_range is some fault =
    programs_of-fault number index earlier vs value table error (omega (arith, in_range)) is some fault

-- the next program is one more
pub programs_of-next : (number index : ℕ) (earlier after : List ProgramEntry) (values : List Value) (value : Value)
    (table : Members) (program : ProgramEntry)
    → index < length values → value ≡ get_or values index value → Some table ≡ as_table (view value)
    → program_of (place.Program number) earlier table ≡ Ok program → after ≡ earlier ++ program ∷ []
    → programs_of number earlier (items_view (drop index values))
    ≡ programs_of (number + 1) after (items_view (drop (suc index) values))
programs_of-next number index earlier after [] value table program in_range is some done grown =
    absurd (omega (arith, in_range))
programs_of-next number zero earlier after (v ∷ vs) value table program in_range is some done grown =
    rw (← is, ← some, done, grown) refl
programs_of-next number (suc index) earlier after (v ∷ vs) value table program in_range is some done grown =
    programs_of-next number index earlier after vs value table program (omega (arith, in_range)) is some done grown

-- no value is left
pub programs_of-end : (number index : ℕ) (earlier : List ProgramEntry) (values : List Value) → length values ≤ index
    → programs_of number earlier (items_view (drop index values)) ≡ Ok earlier
programs_of-end number zero earlier [] past = refl
programs_of-end number (suc index) earlier [] past = refl
programs_of-end number zero earlier (v ∷ vs) past = absurd (omega (arith, past))
programs_of-end number (suc index) earlier (v ∷ vs) past =
    programs_of-end number index earlier vs (omega (arith, past))
