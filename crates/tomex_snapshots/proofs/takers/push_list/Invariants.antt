-- The text so far, and the takers to come, each after a comma.
use Rattle.std.proofs.Common.{◌≡◌, ◌++◌, drop}
use Rattle.std.specs.Prelude.{codes, string_bytes}
use Rattle.std.specs.List.{flat_map}
use Rattle.tomex_snapshots.specs.Takers.{taker_text, takers_text}
use Rattle.tomex_snapshots.proofs.takers.push_list.Given as goal

abbrev pub invariant-loop-taker : goal.invariant-loop-taker
invariant-loop-taker g l =
    string_bytes l.text ++ flat_map (λ y. codes ", " ++ taker_text y) (drop l.taker-index l.rest)
    ≡ string_bytes l.fn.text ++ takers_text l.takers
