-- The changes so far, and the remaining lists.
use Rattle.std.proofs.Common.{◌≡◌, ◌-◌, ◌++◌}
use Rattle.std.specs.List.{flat_map, range_with_len}
use Rattle.tomex_worth.specs.Changes.{changes_at}
use Rattle.tomex_worth.proofs.changes.changes_of.Given as goal

abbrev pub invariant-loop-place : goal.invariant-loop-place
invariant-loop-place g l =
    l.changes.items ++ flat_map (changes_at l.surveyed l.own) (range_with_len l.place (13 - l.place))
    ≡ flat_map (changes_at l.surveyed l.own) (range_with_len 0 13)
