-- Readings of a document: each gives a value, or the first fault that it meets.
use Rattle.std.specs.Prelude.{◌≡◌, ◌≢◌, List, ◌++◌, Result, Ok, Err}
use Rattle.tomex_values.specs.declared.error.DocumentError.{DocumentError}
use Rattle.tomex_values.specs.declared.error.DocumentError.TheVariants.{Memory}

-- a value of this type, or a fault of the study
abbrev pub Reading : Type 0 → Type 0
Reading X = Result X DocumentError

-- one reading, and then one that continues with its value
infixl 10 ◌>>=◌
abbrev pub ◌>>=◌ : {X Y : Type 0} → Reading X → (X → Reading Y) → Reading Y
(Ok x) >>= next = next x
(Err fault) >>= next = Err fault

-- the result, as contracts see it, is the reading
abbrev pub Reads : {X Y : Type 0} → (X → Y) → Reading X → Reading Y → Type 0
Reads view (Ok x) reading = reading ≡ Ok (view x)
Reads view (Err fault) reading = reading ≡ Err fault

-- the same, or out of memory
abbrev pub Gives : {X Y : Type 0} → (X → Y) → Reading X → Reading Y → Type 0
Gives view (Ok x) reading = reading ≡ Ok (view x)
Gives view (Err error) reading = error ≢ Memory → reading ≡ Err error

-- these values, and then those of a reading
abbrev pub with_front : {X : Type 0} → List X → Reading (List X) → Reading (List X)
with_front front reading = reading >>= (λ xs. Ok (front ++ xs))
