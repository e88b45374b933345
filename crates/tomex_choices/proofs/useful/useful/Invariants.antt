-- Those of use so far, and those to come that are.
use Rattle.std.proofs.Common.{◌≡◌, ◌++◌, drop, not}
use Rattle.std.specs.List.{filter, list_any}
use Rattle.tomex_choices.specs.Savings.{is_as_good}
use Rattle.tomex_choices.proofs.useful.useful.Given as goal

abbrev pub invariant-loop-x : goal.invariant-loop-x
invariant-loop-x g l =
    l.useful.items ++ filter (λ x. not (list_any (is_as_good x) l.rows)) (drop l.x-index l.unbeaten)
    ≡ filter (λ x. not (list_any (is_as_good x) l.rows)) l.unbeaten
