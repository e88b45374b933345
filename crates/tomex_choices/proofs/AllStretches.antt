-- What was found in all stretches.
use Rattle.std.proofs.Common.{◌≡◌, ℕ, ◌≤◌, arith, ap, sym, refl, subst, ◌∙◌, List, [], ◌∷◌, ◌++◌, All, length, map}
use Rattle.std.specs.List.{AllZip, flat_map}
use Rattle.std.specs.declared.vec.Vec.{Vec}
use Rattle.std.proofs.lemmas.List.Elements.{All-cons, All-nil}
use Rattle.tomex_study.specs.Study.{DesignSpace}
use Rattle.tomex_study.specs.Surveyed.{AreTotalsOf}
use Rattle.tomex_survey.specs.Stretches.{AreTotalsIn, stretches_of}
use Rattle.tomex_survey.specs.declared.stretch.Stretch.{Stretch}
use Rattle.tomex_survey.proofs.Weighing.{all_totals_are}
use Rattle.tomex_choices.specs.Asking.{IsChain, IsFoundIn}
use Rattle.tomex_choices.specs.declared.found.Found.{Found}
use Rattle.tomex_choices.proofs.Chains.{all_rows_chained}

-- each part has what was found of 13 lists
pub parts_counted : {A : Type 0} (s : DesignSpace) (stretches : List Stretch) (parts : List (Found A))
    → AllZip (IsFoundIn s) stretches parts → All (λ p. length p.lists.items ≡ 13) parts
parts_counted s [] [] zip = All-nil (λ p. length p.lists.items ≡ 13)
parts_counted s [] (p ∷ ps) zip = absurd zip
parts_counted s (z ∷ zs) [] zip = absurd zip
parts_counted s (z ∷ zs) (p ∷ ps) zip =
    All-cons (λ p. length p.lists.items ≡ 13) p ps zip.0.lists.count (parts_counted s zs ps zip.1)

totals_zip : {A : Type 0} (s : DesignSpace) (stretches : List Stretch) (parts : List (Found A))
    → AllZip (IsFoundIn s) stretches parts
    → AllZip (λ z t. AreTotalsIn s z t.items) stretches (map (λ (p : Found A). p.totals) parts)
totals_zip s [] [] zip = tt
totals_zip s [] (p ∷ ps) zip = zip
totals_zip s (z ∷ zs) [] zip = zip
totals_zip s (z ∷ zs) (p ∷ ps) zip = (zip.0.totals, totals_zip s zs ps zip.1)

all_totals : {A : Type 0} (parts : List (Found A))
    → flat_map (λ (p : Found A). p.totals.items) parts
    ≡ flat_map (λ (v : Vec (List ℕ) A). v.items) (map (λ (p : Found A). p.totals) parts)
all_totals [] = refl
all_totals (p ∷ ps) = ap (λ (ts : List (List ℕ)). p.totals.items ++ ts) (all_totals ps)

pub totals_of_all : {A : Type 0} (s : DesignSpace) (workers rows : ℕ) (stretches given : List Stretch)
    (parts : List (Found A)) (totals : List (List ℕ)) → 1 ≤ workers → rows ≡ length s.rows
    → stretches ≡ stretches_of rows workers → given ≡ stretches → AllZip (IsFoundIn s) given parts
    → totals ≡ flat_map (λ (p : Found A). p.totals.items) parts → AreTotalsOf s totals
totals_of_all s workers rows stretches given parts totals some many are same zip is =
    all_totals_are s workers rows stretches given (map (λ (p : Found _). p.totals) parts) totals some many are same
    (totals_zip s given parts zip) (is ∙ all_totals parts)

-- the stretches are of all rows
pub all_chained : (workers rows n : ℕ) (stretches given : List Stretch) → 1 ≤ workers → rows ≡ n
    → stretches ≡ stretches_of rows workers → given ≡ stretches → IsChain 0 n given
all_chained workers rows n stretches given some many are same =
    subst (IsChain 0 n) (sym (same ∙ are))
    (subst (λ (k : ℕ). IsChain 0 k (stretches_of rows workers)) many (all_rows_chained rows workers (omega arith)))
