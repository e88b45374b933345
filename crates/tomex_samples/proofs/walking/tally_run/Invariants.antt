use Rattle.std.proofs.Common.{◌<◌}
use Rattle.tomex_samples.specs.Tallied.{AreFoundIn, AreTalliedIn}
use Rattle.tomex_samples.proofs.Walked.{IsWalked}
use Rattle.tomex_samples.proofs.walking.tally_run.Given as goal

abbrev pub invariant-loop-done : goal.invariant-loop-done
invariant-loop-done g l = record {
  walked : IsWalked l.fn.image l.steps l.done l.cpu l.uses.base l.uses.numbers.items;
  tallied : AreTalliedIn l.fn.image l.steps l.done l.tally;
  found : AreFoundIn l.fn.image l.steps l.done l.tally;
  current : l.tally.current < l.steps;
}
