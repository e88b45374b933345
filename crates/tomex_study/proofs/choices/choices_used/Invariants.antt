-- The choices so far, and the remaining ones.
use Rattle.std.proofs.Common.{◌≡◌, ◌++◌, drop}
use Rattle.std.specs.List.{filter}
use Rattle.tomex_study.specs.Choices.{has_use}
use Rattle.tomex_study.proofs.choices.choices_used.Given as goal

abbrev pub invariant-loop-config : goal.invariant-loop-config
invariant-loop-config g l =
    l.some.items ++ filter (has_use l.surveyed l.part l.used) (drop l.config-index l.config-items)
    ≡ filter (has_use l.surveyed l.part l.used) l.config-items
