-- The remaining machines.
use Rattle.std.proofs.Common.{◌≡◌, drop}
use Rattle.std.specs.List.{list_any}
use Rattle.tomex_choices.specs.Additions.{has_entry}
use Rattle.tomex_choices.proofs.weighing.has_entry.Given as goal

abbrev pub invariant-loop-x : goal.invariant-loop-x
invariant-loop-x l =
    list_any (has_entry l.fn.part l.config) (drop l.x-index l.machines)
    ≡ list_any (has_entry l.fn.part l.config) l.machines
