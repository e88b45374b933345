-- The parts so far, and the remaining ones.
use Rattle.std.proofs.Common.{◌≡◌, ◌++◌}
use Rattle.std.specs.List.{flat_map}
use Rattle.std.specs.Vec.Iter.{into_iter_items}
use Rattle.tomex_survey.proofs.totals.join_parts.Given as goal

abbrev pub invariant-loop-part : goal.invariant-loop-part
invariant-loop-part g l =
    l.all.items ++ flat_map (λ p. p.items) (into_iter_items l.part-iterator) ≡ flat_map (λ p. p.items) l.fn.parts.items
