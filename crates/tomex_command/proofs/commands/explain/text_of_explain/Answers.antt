-- The text explains the words of the line.
use Rattle.std.proofs.Common.{List, ℕ, subst}
use Rattle.tomex_refusals.specs.Explanations.{IsExplained}
use Rattle.tomex_command.proofs.commands.explain.text_of_explain.Goals as goal

pub returns-in_ok-explain-in-Some-clause-text : goal.returns-in_ok-explain-in-Some-clause-text
returns-in_ok-explain-in-Some-clause-text g c =
    rw c.in-Some.is (subst (λ (words : List ℕ). IsExplained words c.in_ok-explain-in-Some.field-0.items)
    c.as_str.ensures.value c.in_ok-explain-in-Some.ensures.text)
