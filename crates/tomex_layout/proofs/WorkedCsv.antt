-- Some cells as fields, computed by the definitions themselves.
use Rattle.std.proofs.Common.{◌≡◌, refl, [], ◌∷◌}
use Rattle.std.specs.Prelude.{codes, map}
use Rattle.std.specs.Fmt.{digits}
use Rattle.tomex_layout.specs.CsvFields.{number_field, percent_field}

numbers : map number_field (codes "+6" ∷ codes "-9426" ∷ codes "0" ∷ codes "-0.0" ∷ codes "+25.0" ∷ codes "-" ∷ [])
    ≡ codes "6" ∷ codes "-9426" ∷ codes "0" ∷ codes "-0.0" ∷ codes "25.0" ∷ [] ∷ []
numbers = refl

percents : map percent_field (0 ∷ 45 ∷ 99 ∷ 100 ∷ []) ≡ codes "0" ∷ codes "45" ∷ codes "99" ∷ [] ∷ []
unfolding digits
percents = refl
