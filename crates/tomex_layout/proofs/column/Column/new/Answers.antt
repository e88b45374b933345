-- It is as wide as its name.
use Rattle.std.proofs.Common.{ap, List, ℕ, length, map}
use Rattle.std.specs.Prelude.{string_bytes}
use Rattle.tomex_layout.proofs.Widths.{width_alone}
use Rattle.tomex_layout.proofs.column.Column.new.Goals as goal

pub invariant_of-result : goal.invariant_of-result
invariant_of-result c =
    width_alone _ _ _ (ap (map string_bytes) c.new.ensures.items)
    (ap (λ (t : List ℕ). length t) c.as_bytes-width.ensures.value)
