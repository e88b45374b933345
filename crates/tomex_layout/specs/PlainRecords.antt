-- The code's own words: numbers of a record after its first one.
use Rattle.std.specs.Prelude.{ℕ, List, ◌∷◌}
use Rattle.std.specs.Fmt.{decimal}

abbrev pub after_comma : ℕ → List ℕ
after_comma n = 44 ∷ decimal n
