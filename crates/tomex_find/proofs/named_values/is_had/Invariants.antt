-- The remaining rows.
use Rattle.std.proofs.Common.{◌≡◌, ◌-◌, length}
use Rattle.std.specs.List.{list_any, range_with_len}
use Rattle.tomex_find.specs.Find.{has_choice}
use Rattle.tomex_find.proofs.named_values.is_had.Given as goal

abbrev pub invariant-loop-row : goal.invariant-loop-row
invariant-loop-row g l =
    list_any (λ k. has_choice l.study k l.word) (range_with_len l.row (length l.study.rows - l.row))
    ≡ list_any (λ k. has_choice l.study k l.word) (range_with_len 0 (length l.study.rows))
