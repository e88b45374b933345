-- The lists so far, and the remaining ones.
use Rattle.std.proofs.Common.{◌≡◌, ◌-◌, ◌++◌, map}
use Rattle.std.specs.List.{range_with_len}
use Rattle.tomex_choices.proofs.searching.all_entries.Given as goal

abbrev pub invariant-loop-place : goal.invariant-loop-place
invariant-loop-place g l =
    l.lists.items ++ map (λ place. record { rows = l.rows; place = place }) (range_with_len l.place (13 - l.place))
    ≡ map (λ place. record { rows = l.rows; place = place }) (range_with_len 0 13)
