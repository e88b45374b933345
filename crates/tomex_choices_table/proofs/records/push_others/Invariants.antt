-- The entries so far, and the remaining ones.
use Rattle.std.proofs.Common.{◌≡◌, ◌++◌, drop, string_bytes}
use Rattle.std.specs.List.{flat_map}
use Rattle.tomex_choices_table.specs.ChoicesCsv.{after_space}
use Rattle.tomex_choices_table.proofs.records.push_others.Given as goal

abbrev pub invariant-loop-config : goal.invariant-loop-config
invariant-loop-config l =
    string_bytes l.text ++ flat_map (after_space l.part) (drop l.config-index l.configs)
    ≡ string_bytes l.fn.text ++ flat_map (after_space l.part) l.configs
