-- Those so far.
use Rattle.tomex_refusals.specs.Refusals.{all_refusals}
use Rattle.tomex_refusals.proofs.Found.{AreSoFar}
use Rattle.tomex_refusals.proofs.refusal.refusals_with.Given as goal

abbrev pub invariant-loop-refusal : goal.invariant-loop-refusal
invariant-loop-refusal g l = AreSoFar l.words all_refusals l.refusal-index l.found.items
