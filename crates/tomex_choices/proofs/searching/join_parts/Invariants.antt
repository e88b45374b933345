-- The parts so far, and the remaining ones.
use Rattle.std.proofs.Common.{◌≡◌, ◌++◌, All, length}
use Rattle.std.specs.List.{flat_map}
use Rattle.std.specs.Vec.Iter.{into_iter_items}
use Rattle.tomex_choices.proofs.Joining.{IsFoundSoFar}
use Rattle.tomex_choices.proofs.searching.join_parts.Given as goal

abbrev pub invariant-loop-part : goal.invariant-loop-part
invariant-loop-part g l = record {
  count : length l.all.lists.items ≡ 13;
  counts : All (λ p. length p.lists.items ≡ 13) (into_iter_items l.part-iterator);
  totals : l.all.totals.items ++ flat_map (λ p. p.totals.items) (into_iter_items l.part-iterator)
      ≡ flat_map (λ p. p.totals.items) l.fn.parts.items;
  lists : IsFoundSoFar l.fn.parts.items (into_iter_items l.part-iterator) l.all.lists.items;
}
