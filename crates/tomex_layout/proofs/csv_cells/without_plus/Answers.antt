-- A first `+` is taken away, and nothing else.
use Rattle.std.proofs.Common.{◌≡◌, ◌≢◌, ◌==◌, ℕ, ap, arith, inl, inr, refl, List, [], ◌∷◌, None, Some}
use Rattle.std.proofs.lemmas.Bool.{cases_Bool, eqb-true}
use Rattle.std.proofs.lemmas.Str.Pattern.{strip_prefix_char}
use Rattle.tomex_layout.specs.CsvFields.{without_plus}
use Rattle.tomex_layout.proofs.csv_cells.without_plus.Goals as goal

stays : (cell : List ℕ) → ((digits : List ℕ) → cell ≢ 43 ∷ digits) → cell ≡ without_plus cell
stays [] none = refl
stays (sign ∷ digits) none = elim (cases_Bool (sign == 43)) [
  | inl plus ↦ absurd (none digits (ap (λ (b : ℕ). b ∷ digits) (eqb-true sign 43 plus)))
  | inr other ↦ rw other refl
]

goes : (cell digits : List ℕ) → cell ≡ 43 ∷ digits → digits ≡ without_plus cell
goes cell digits is = rw is refl

pub returns-in-Some : goal.returns-in-Some
returns-in-Some c =
    goes c.args.cell.now _
    (strip_prefix_char 43 c.args.cell.now (Some c.in-Some.digits) c.in-Some.ensures.cases (omega arith))

pub returns-in-None : goal.returns-in-None
returns-in-None c =
    stays c.args.cell.now (strip_prefix_char 43 c.args.cell.now None c.in-None.ensures.cases (omega arith))
