-- What is found on the rows so far.
use Rattle.std.proofs.Common.{◌≡◌, ◌-◌, drop, length, map, take}
use Rattle.tomex_study.specs.Cycles.{totals_on}
use Rattle.tomex_choices.specs.Asking.{AreFound}
use Rattle.tomex_choices.proofs.searching.found_in_stretch.Given as goal

abbrev pub invariant-loop-row : goal.invariant-loop-row
invariant-loop-row g l = record {
  programs : l.knowledge.programs ≡ l.study.programs;
  totals : map (take (length l.study.programs)) l.found.totals.items
      ≡ map (totals_on l.study.programs) (take (l.row - l.stretch.first) (drop l.stretch.first l.study.rows));
  lists : AreFound l.study l.stretch.first l.row l.found.lists.items;
}
