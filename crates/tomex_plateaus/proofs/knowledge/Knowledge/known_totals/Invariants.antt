-- The known totals so far are looked up, and right.
use Rattle.std.proofs.Common.{◌≡◌, take}
use Rattle.tomex_plateaus.specs.Knowledge.{AreTotals, known_totals_on}
use Rattle.tomex_plateaus.proofs.knowledge.Knowledge.known_totals.Given as goal

abbrev pub invariant-loop-place : goal.invariant-loop-place
invariant-loop-place g l = record {
  known : take l.place l.known ≡ take l.place (known_totals_on l.self.lists l.config);
  totals : AreTotals l.self.programs l.config l.known;
}
