-- What explains a text's words, and why nothing does.
use Rattle.std.specs.Prelude.{◌≡◌, ◌⊎◌, ℕ, List, Some, None}
use Rattle.tomex_refusals.specs.declared.explaining.ExplainError.{ExplainError}
use Rattle.tomex_refusals.specs.declared.explaining.ExplainError.TheVariants.{NoSuchRefusal, Memory}
use Rattle.tomex_refusals.specs.declared.refusal.Refusal.{Refusal}
use Rattle.tomex_refusals.specs.LongestWords.{IsPart}
use Rattle.tomex_refusals.specs.Refusals.{AreWith, IsFirstIn, all_refusals, explanation_of, text_of_found}

-- a text explains the refusal in the words, if there is one; else it is of those whose lines have a part of them
abbrev pub IsExplained : List ℕ → List ℕ → Type 0
IsExplained words text =
    ((refusal : Refusal) × IsFirstIn words all_refusals (Some refusal) × (text ≡ explanation_of refusal))
    ⊎ (IsFirstIn words all_refusals None × ((part : List ℕ) × IsPart words (Some part)
    × ((found : List Refusal) × AreWith part all_refusals found × (text ≡ text_of_found found))))

-- there is a text for the words
abbrev pub HasText : List ℕ → Type 0
HasText words =
    ((refusal : Refusal) × IsFirstIn words all_refusals (Some refusal))
    ⊎ (IsFirstIn words all_refusals None × ((part : List ℕ) × IsPart words (Some part)))

-- why there is no explanation; out of memory only if there is a text
abbrev pub IsUnexplained : List ℕ → ExplainError → Type 0
IsUnexplained words NoSuchRefusal = IsFirstIn words all_refusals None × IsPart words None
IsUnexplained words Memory = HasText words
