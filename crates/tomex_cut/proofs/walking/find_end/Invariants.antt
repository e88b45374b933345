use Rattle.std.proofs.Common.{◌≡◌, ◌+◌, length}
use Rattle.tomex_cut.proofs.Taken.{Walked}
use Rattle.tomex_cut.proofs.Walks.{IsOpen}
use Rattle.tomex_cut.proofs.walking.find_end.Given as goal

abbrev pub invariant-loop-done : goal.invariant-loop-done
invariant-loop-done g l = record {
  walked : Walked l.fn.cpu l.done l.cpu l.words.base l.words.marks.items l.is_overwritten;
  base : l.words.base ≡ l.fn.words.base;
  count : length l.words.marks.items ≡ length l.fn.words.marks.items;
  going : IsOpen l.fn.cpu l.least (l.done + 1);
}
