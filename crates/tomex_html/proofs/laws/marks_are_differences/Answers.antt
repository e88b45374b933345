-- Texts are the same if their bytes are.
use Rattle.std.proofs.Common.{◌≡◌, ℕ, List, [], ◌∷◌, arith, length, refl, true}
use Rattle.std.specs.Prelude.{◌≢◌, nat_lt}
use Rattle.std.specs.Str.{bytes_eq}
use Rattle.std.proofs.lemmas.Bool.{and_from, false_from_ne_true, lt-ltb, not_from_false}
use Rattle.std.proofs.lemmas.Slice.Eq.{bytes_eq-Decides}
use Rattle.tomex_html.proofs.laws.marks_are_differences.Goals as goal

has_signs : (now : List ℕ) → now ≢ [] → nat_lt 0 (length now) ≡ true
has_signs [] some = absurd (some refl)
has_signs (x ∷ xs) some = lt-ltb 0 (length (x ∷ xs)) (omega arith)

pub returns-clause-unchanged : goal.returns-clause-unchanged
returns-clause-unchanged c text = let same : bytes_eq text text ≡ true = (bytes_eq-Decides text text).1 refl in rw
    same refl

pub returns-clause-changed : goal.returns-clause-changed
returns-clause-changed c was now differs some =
    and_from _ _ (not_from_false (bytes_eq was now) (false_from_ne_true (bytes_eq was now) (λ same. differs
    ((bytes_eq-Decides was now).0 same)))) (has_signs now some)
