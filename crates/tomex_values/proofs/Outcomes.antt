-- What is known from a reading that gives a value.
use Rattle.std.proofs.Common.{◌≡◌, Bool, true, false, Ok, Err, refl}
use Rattle.std.specs.Prelude.{if◌then◌else◌}
use Rattle.tomex_values.specs.declared.error.DocumentError.{DocumentError}
use Rattle.tomex_values.specs.Readings.{Reading, ◌>>=◌}

-- a fault isn't a value
pub fault_is_no_value : {X : Type 0} (error : DocumentError) (x : X) → Err error ≡ Ok x → ⊥
fault_is_no_value error x given = cc

pub same_value : {X : Type 0} (x y : X) (reading : Reading X) → reading ≡ Ok x → reading ≡ Ok y → x ≡ y
same_value x y reading one other = cc

-- the first of two readings gave a value, from which the second continued
pub first_value : {X Y : Type 0} (reading : Reading X) (next : X → Reading Y) (y : Y) → (reading >>= next) ≡ Ok y
    → (x : X) × ((reading ≡ Ok x) × (next x ≡ Ok y))
first_value (Ok x) next y given = (x, (refl, given))
first_value (Err error) next y given = absurd (fault_is_no_value error y given)

-- a test was passed
pub passed : {X : Type 0} (test : Bool) (x y : X) (error : DocumentError) → (if test then Ok x else Err error) ≡ Ok y
    → (test ≡ true) × (x ≡ y)
passed true x y error given = (refl, same_value x y (Ok x) refl given)
passed false x y error given = absurd (fault_is_no_value error y given)

-- a test for a fault was failed
pub not_met : {X : Type 0} (test : Bool) (x y : X) (error : DocumentError) → (if test then Err error else Ok x) ≡ Ok y
    → (test ≡ false) × (x ≡ y)
not_met false x y error given = (refl, same_value x y (Ok x) refl given)
not_met true x y error given = absurd (fault_is_no_value error y given)

-- a reading that gives a value continues, and one that meets a fault stops
pub goes_on : {X Y : Type 0} (reading : Reading X) (next : X → Reading Y) (x : X) (whole : Reading Y) → reading ≡ Ok x
    → next x ≡ whole → (reading >>= next) ≡ whole
goes_on reading next x whole given rest = rw given rest

pub stops : {X Y : Type 0} (reading : Reading X) (next : X → Reading Y) (error : DocumentError) → reading ≡ Err error
    → (reading >>= next) ≡ Err error
stops reading next error fault = rw fault refl
