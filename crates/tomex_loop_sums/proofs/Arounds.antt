-- Whether all visits have the same loop around.
use Rattle.std.proofs.Common.{ℕ, List, Option}
use Rattle.std.specs.Prelude.{if◌then◌else◌, nat_eq}
use Rattle.std.specs.List.{list_all}
use Rattle.std.specs.Option.{option_eq}
use Rattle.tomex_loop_sums.specs.declared.around.Around.{Around}
use Rattle.tomex_loop_sums.specs.declared.around.Around.TheVariants.{Several}
use Rattle.tomex_loop_sums.specs.Around.{around_one}

-- the answer if these are the visits left to compare with the first
abbrev pub around_left : Option ℕ → List (Option ℕ) → Around
around_left first others = if list_all (option_eq nat_eq first) others then around_one first else Several
