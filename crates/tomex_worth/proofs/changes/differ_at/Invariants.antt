-- The remaining lists.
use Rattle.std.proofs.Common.{◌≡◌, ◌==◌, ◌-◌, not, if◌then◌else◌}
use Rattle.std.specs.List.{list_all, range_with_len}
use Rattle.tomex_config.specs.Parts.{part_at, same_entry}
use Rattle.tomex_worth.proofs.changes.differ_at.Given as goal

abbrev pub invariant-loop-k : goal.invariant-loop-k
invariant-loop-k l =
    list_all (λ k. if k == l.place then not (same_entry l.a l.b (part_at k)) else same_entry l.a l.b (part_at k))
    (range_with_len l.k (13 - l.k))
    ≡ list_all (λ k. if k == l.place then not (same_entry l.a l.b (part_at k)) else same_entry l.a l.b (part_at k))
    (range_with_len 0 13)
