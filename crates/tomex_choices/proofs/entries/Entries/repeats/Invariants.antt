-- No row after this one is asked for.
use Rattle.std.proofs.Common.{◌≤◌}
use Rattle.tomex_choices.proofs.entries.Entries.repeats.Given as goal

abbrev pub invariant-loop-back : goal.invariant-loop-back
invariant-loop-back l = l.earlier ≤ l.row
