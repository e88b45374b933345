-- The first among the remaining refusals is the first of all.
use Rattle.tomex_refusals.specs.Refusals.{all_refusals}
use Rattle.tomex_refusals.proofs.Found.{IsFirstFrom}
use Rattle.tomex_refusals.proofs.refusal.refusal_in.Given as goal

abbrev pub invariant-loop-refusal : goal.invariant-loop-refusal
invariant-loop-refusal l = IsFirstFrom l.text all_refusals l.refusal-index
