-- The rows so far are closed.
use Rattle.tomex_sweep.proofs.Gathered.{IsGathering}
use Rattle.tomex_sweep.proofs.leftovers.gather.Given as goal

abbrev pub invariant-loop-row : goal.invariant-loop-row
invariant-loop-row g l = IsGathering l.study l.initial.marks.items l.marks.items l.row l.gathered
