-- The choices so far, and those of the remaining numbers.
use Rattle.std.proofs.Common.{◌≡◌, ◌+◌, ◌-◌, ◌++◌}
use Rattle.std.specs.List.{flat_map, range_with_len}
use Rattle.tomex_config.specs.Parts.{part_at}
use Rattle.tomex_config.specs.Parts.{most_of}
use Rattle.tomex_choices.specs.NewMachines.{grown}
use Rattle.tomex_choices.specs.Weighed.{added_by, added_if}
use Rattle.tomex_choices.proofs.weighing.push_added.Given as goal

abbrev pub invariant-loop-fewer : goal.invariant-loop-fewer
invariant-loop-fewer l =
    l.added.items
    ++ flat_map (λ n. added_if (part_at l.entries.place) l.machines
    (grown l.entries.rows (part_at l.entries.place) l.config n))
    (range_with_len (l.fewer + 1) (most_of (part_at l.entries.place) - l.fewer))
    ≡ l.fn.added.items ++ added_by l.entries.rows (part_at l.entries.place) l.machines l.config
