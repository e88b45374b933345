-- The result of a line that asks for an explanation, given the words of a refusal, if any.
use Rattle.std.specs.Prelude.{◌≡◌, List, ℕ, Option, Some, None}
use Rattle.tomex_command.specs.declared.failure.Failure.{Failure}
use Rattle.tomex_command.specs.declared.failure.Failure.TheVariants.{NoSuchRefusal, Memory}
use Rattle.tomex_refusals.specs.declared.explaining.ExplainError.TheVariants as errors
use Rattle.tomex_refusals.specs.Explanations.{IsExplained, IsUnexplained}
use Rattle.tomex_refusals.specs.Refusals.{refusal_lines}

-- the text explains the refusal in the words; without words it is the list of all refusals
abbrev pub IsExplanation : Option (List ℕ) → List ℕ → Type 0
IsExplanation None text = text ≡ refusal_lines
IsExplanation (Some words) text = IsExplained words text

-- there are words, and they are those of no refusal
abbrev pub IsNoRefusal : Option (List ℕ) → Type 0
IsNoRefusal None = ⊥
IsNoRefusal (Some words) = IsUnexplained words errors.NoSuchRefusal

-- when each failure comes; any text may run out of memory
abbrev pub IsExplainFailure : Option (List ℕ) → Failure → Type 0
IsExplainFailure refusal NoSuchRefusal = IsNoRefusal refusal
IsExplainFailure refusal Memory = Unit {0}
IsExplainFailure refusal _ = ⊥
