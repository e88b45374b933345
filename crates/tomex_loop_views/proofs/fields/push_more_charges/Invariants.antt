-- The cycles so far are added.
use Rattle.std.proofs.Common.{◌++◌, codes, take}
use Rattle.std.specs.List.{flat_map}
use Rattle.tomex_layout.specs.Growth.{Appends}
use Rattle.tomex_loop_views.specs.Table.{charge_text}
use Rattle.tomex_loop_views.proofs.fields.push_more_charges.Given as goal

abbrev pub invariant-loop-charge : goal.invariant-loop-charge
invariant-loop-charge l =
    Appends (flat_map (λ c. codes " " ++ charge_text c) (take l.charge-index l.charges)) l.fn.text l.text
