-- The text so far, and the cells to come.
use Rattle.std.proofs.Common.{◌≡◌, ◌++◌, drop}
use Rattle.std.specs.Prelude.{string_bytes}
use Rattle.std.specs.List.{flat_map}
use Rattle.std.specs.Fmt.{decimal}
use Rattle.tomex_html.specs.Html.{td}
use Rattle.tomex_animate.proofs.machine.push_numbers.Given as goal

abbrev pub invariant-loop-value : goal.invariant-loop-value
invariant-loop-value g l =
    string_bytes l.text ++ flat_map (λ n. td (decimal n)) (drop l.value-index l.values)
    ≡ string_bytes l.fn.text ++ flat_map (λ n. td (decimal n)) l.values
