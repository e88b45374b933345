-- The lists so far.
use Rattle.std.proofs.Common.{◌≡◌}
use Rattle.tomex_choices.proofs.AskedRows.{AreAskedTo}
use Rattle.tomex_choices.proofs.asking.ask_row.Given as goal

abbrev pub invariant-loop-place : goal.invariant-loop-place
invariant-loop-place g l = record {
  programs : l.knowledge.programs ≡ l.fn.knowledge.programs;
  asked : AreAskedTo l.study l.row l.place l.fn.found.items l.found.items;
}
