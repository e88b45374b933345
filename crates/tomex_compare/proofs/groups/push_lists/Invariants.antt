-- The groups of the lists so far.
use Rattle.std.proofs.Common.{◌≡◌, ◌++◌, take}
use Rattle.std.specs.List.{flat_map}
use Rattle.tomex_config.specs.Parts.{all_parts}
use Rattle.tomex_compare.specs.Groups.{list_groups}
use Rattle.tomex_compare.proofs.groups.push_lists.Given as goal

abbrev pub invariant-loop-part : goal.invariant-loop-part
invariant-loop-part g l =
    l.groups.items ≡ l.fn.groups.items ++ flat_map (list_groups l.surveyed l.pairs) (take l.part-index all_parts)
