-- The blocks of the steps before a place are made.
use Rattle.std.proofs.Common.{◌-◌, ◌≤◌, ◌≡◌, length}
use Rattle.tomex_repeats.specs.Masks.{AreFirsts, ArePlaces}
use Rattle.tomex_repeats.proofs.Made.{AreMade}
use Rattle.tomex_repeats.proofs.blocks.Blocks.of.Given as goal

abbrev pub invariant-loop-first : goal.invariant-loop-first
invariant-loop-first g l = record {
  within : l.first ≤ length l.facts;
  places : ArePlaces l.facts l.conflicts.accesses.items l.first;
  known : length l.conflicts.masks.items ≡ l.first;
  firsts : AreFirsts l.facts l.conflicts.masks.items l.numbers.slots.items l.numbers.firsts.items;
  made : AreMade l.facts l.numbers.firsts.items l.made.items l.first;
}

abbrev pub decreases-loop-first : goal.decreases-loop-first
decreases-loop-first g l = length l.facts - l.first
