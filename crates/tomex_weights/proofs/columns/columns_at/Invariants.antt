-- The columns so far, and those to come.
use Rattle.std.proofs.Common.{◌≡◌, ◌++◌, drop, map}
use Rattle.tomex_weights.specs.Listed.{spans_by}
use Rattle.tomex_weights.proofs.columns.columns_at.Given as goal

abbrev pub invariant-loop-place : goal.invariant-loop-place
invariant-loop-place g l =
    l.columns.items ++ map (spans_by l.surveyed) (drop l.place-index l.places) ≡ map (spans_by l.surveyed) l.places
