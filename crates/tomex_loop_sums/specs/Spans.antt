-- Sums over the steps of a run that are in spans.
use Rattle.std.specs.Prelude.{ℕ, ◌==◌, nat_le, nat_lt, Bool, ◌&&◌, if◌then◌else◌, List, length}
use Rattle.std.specs.Prelude.{slice_index}
use Rattle.std.specs.List.{list_any}
use Rattle.tomex_stretches.specs.Cycles.{sum_below}
use Rattle.tomex_loop_sums.specs.declared.spans.Span.{Span}

-- a step is in a span with this key
abbrev pub is_in : ℕ → ℕ → Span → Bool
is_in n step span = span.key == n && nat_le span.from step && nat_lt step span.to

-- the sum of the numbers of those steps that are in a span with this key
abbrev pub sum_in : ℕ → List Span → List ℕ → ℕ
sum_in n spans numbers =
    sum_below (length numbers) (λ step. if list_any (is_in n step) spans then slice_index numbers step else 0)
