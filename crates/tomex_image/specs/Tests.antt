-- Tests of a file in their order, and the first that fails.
use Rattle.std.specs.Prelude.{List, [], ◌∷◌, Option, Some, None, Bool, if◌then◌else◌}
use Rattle.tomex_image.specs.declared.error.ImageError.{ImageError}

-- a test: if `fails`, the file fails it, and is refused with `answer`
pub record Test : Type 0 where
  pub fails : Bool
  pub answer : ImageError

abbrev pub test : Bool → ImageError → Test
test fails answer = record { fails = fails; answer = answer }

-- the refusal of the first test that fails, if one does
abbrev pub first_failing : List Test → Option ImageError
first_failing [] = None
first_failing (t ∷ ts) = if t.fails then Some t.answer else first_failing ts
