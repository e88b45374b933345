-- None of the lines so far has the words.
use Rattle.std.proofs.Common.{take}
use Rattle.std.specs.List.{All}
use Rattle.tomex_refusals.specs.Refusals.{HasPart, all_refusals}
use Rattle.tomex_refusals.proofs.longest_words.is_in_a_line.Given as goal

abbrev pub invariant-loop-refusal : goal.invariant-loop-refusal
invariant-loop-refusal l = All (λ refusal. HasPart l.words refusal → ⊥) (take l.refusal-index all_refusals)
