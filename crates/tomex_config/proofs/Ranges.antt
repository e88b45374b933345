-- Values within the limits of their axis, as parts of a configuration.
use Rattle.std.proofs.Common.{◌≡◌, ◌<◌, ℕ, get_or, Bool, true, List, All, length, rules, arith}
use Rattle.std.specs.List.{list_all}
use Rattle.std.specs.Prelude.{slice_index_or, slice_set}
use Rattle.std.proofs.lemmas.Grind.{common_steps}
use Rattle.std.proofs.lemmas.List.Elements.{All-get_or}
use Rattle.std.proofs.lemmas.List.Sums.{AllPass-from_list_all}
use Rattle.tomex_rvdec.specs.Places.{place_of_unit}
use Rattle.tomex_rvdec.specs.declared.pool.UnitId.{UnitId}
use Rattle.tomex_rvdec.specs.declared.pool.UnitId.TheVariants.{Alu, Mul, Div, Mem, Bru}
use Rattle.tomex_config.specs.declared.config.UnitOption.{UnitOption}
use Rattle.tomex_config.specs.Configuration.{is_option, most_units, plain_option}

pub each_passes : {X : Type 0} (p : X → Bool) (xs : List X) → list_all p xs ≡ true → All (λ x. p x ≡ true) xs
each_passes p xs h = AllPass-from_list_all p xs h

pub passes_at : {X : Type 0} (p : X → Bool) (xs : List X) (k : ℕ) (d : X) → list_all p xs ≡ true → k < length xs
    → p (get_or xs k d) ≡ true
passes_at p xs k d h within = All-get_or (λ x. p x ≡ true) xs k d within (each_passes p xs h)

-- an option for any kind has at most 8 units
pub fits_any : (unit : UnitId) (o : UnitOption) → is_option (most_units unit) o ≡ true → is_option 8 o ≡ true
fits_any Bru o h = search rules
fits_any Alu o h = h
fits_any Mul o h = h
fits_any Div o h = h
fits_any Mem o h = h

-- an option for one kind keeps the number of branch units at one
pub one_branch_unit : (unit : UnitId) (o : UnitOption) (units : List UnitOption) → is_option (most_units unit) o ≡ true
    → length units ≡ 5 → (slice_index_or units 4 plain_option).units ≡ 1
    → (slice_index_or (slice_set units (place_of_unit unit) o) 4 plain_option).units ≡ 1
one_branch_unit Bru o units h n one = grind (arith, common_steps)
one_branch_unit Alu o units h n one = grind (arith, common_steps)
one_branch_unit Mul o units h n one = grind (arith, common_steps)
one_branch_unit Div o units h n one = grind (arith, common_steps)
one_branch_unit Mem o units h n one = grind (arith, common_steps)
