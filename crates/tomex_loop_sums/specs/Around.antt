-- The loop around a loop, given the one around each of its visits.
use Rattle.std.specs.Prelude.{ℕ, nat_eq, if◌then◌else◌, List, [], ◌∷◌, Option, Some, None}
use Rattle.std.specs.List.{list_all}
use Rattle.std.specs.Option.{option_eq}
use Rattle.tomex_loop_sums.specs.declared.around.Around.{Around}
use Rattle.tomex_loop_sums.specs.declared.around.Around.TheVariants.{Nowhere, Within, Several}

-- of a single visit
abbrev pub around_one : Option ℕ → Around
around_one None = Nowhere
around_one (Some head) = Within head

-- of all visits: that of the first, if the others have the same
abbrev pub around_of : List (Option ℕ) → Around
around_of [] = Nowhere
around_of (first ∷ others) = if list_all (option_eq nat_eq first) others then around_one first else Several
