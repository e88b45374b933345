-- The numbers so far are added.
use Rattle.std.proofs.Common.{◌++◌, codes, take}
use Rattle.std.specs.List.{flat_map}
use Rattle.std.specs.Fmt.{decimal}
use Rattle.tomex_layout.specs.Growth.{Appends}
use Rattle.tomex_loop_views.proofs.fields.push_more_numbers.Given as goal

abbrev pub invariant-loop-number : goal.invariant-loop-number
invariant-loop-number l =
    Appends (flat_map (λ n. codes " " ++ decimal n) (take l.number-index l.numbers)) l.fn.text l.text
