-- The choices so far, and those of the remaining configurations.
use Rattle.std.proofs.Common.{◌≡◌, ◌++◌, drop}
use Rattle.std.specs.List.{flat_map}
use Rattle.tomex_config.specs.Parts.{part_at}
use Rattle.tomex_choices.specs.Weighed.{added_by}
use Rattle.tomex_choices.proofs.weighing.all_added.Given as goal

abbrev pub invariant-loop-config : goal.invariant-loop-config
invariant-loop-config l =
    l.added.items
    ++ flat_map (added_by l.entries.rows (part_at l.entries.place) l.machines) (drop l.config-index l.configs)
    ≡ flat_map (added_by l.entries.rows (part_at l.entries.place) l.machines) l.configs
