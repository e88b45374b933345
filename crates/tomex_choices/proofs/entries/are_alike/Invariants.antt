-- The remaining lists.
use Rattle.std.proofs.Common.{◌≡◌, ◌-◌}
use Rattle.std.specs.List.{list_all, range_with_len}
use Rattle.tomex_choices.specs.Asking.{are_alike_in}
use Rattle.tomex_choices.proofs.entries.are_alike.Given as goal

abbrev pub invariant-loop-k : goal.invariant-loop-k
invariant-loop-k l =
    list_all (are_alike_in l.place l.a l.b) (range_with_len l.k (13 - l.k))
    ≡ list_all (are_alike_in l.place l.a l.b) (range_with_len 0 13)
