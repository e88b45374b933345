-- The lists so far, and the remaining ones.
use Rattle.std.proofs.Common.{◌≡◌, ◌≤◌, All, drop, length}
use Rattle.std.specs.Vec.Iter.{into_iter_items}
use Rattle.tomex_study.specs.Study.{DesignSpace, IsStudy}
use Rattle.tomex_study.specs.StudyFront.{all_rows}
use Rattle.tomex_choices.specs.Asking.{AreFound}
use Rattle.tomex_choices.proofs.AllWeighed.{AreWeighedSoFar}
use Rattle.tomex_choices.proofs.weighing.all_weighed.Given as goal

abbrev pub invariant-loop-list : goal.invariant-loop-list
invariant-loop-list g l = record {
  few : All (λ f. f.last_change ≤ 16) (into_iter_items l.list-iterator);
  within : length l.all.items ≤ length l.fn.lists.items;
  left : drop (length l.all.items) l.fn.lists.items ≡ into_iter_items l.list-iterator;
  weighed : (s : DesignSpace) → IsStudy s → l.rows ≡ all_rows s → AreFound s 0 (length s.rows) l.fn.lists.items
      → AreWeighedSoFar s l.all.items;
}
