-- The remaining entries.
use Rattle.std.proofs.Common.{◌≡◌, drop}
use Rattle.std.specs.List.{list_any}
use Rattle.tomex_compare.specs.Groups.{shows_same}
use Rattle.tomex_compare.proofs.entries.is_shown.Given as goal

abbrev pub invariant-loop-entry : goal.invariant-loop-entry
invariant-loop-entry l =
    list_any (λ e. shows_same l.part e l.config) (drop l.entry-index l.entries)
    ≡ list_any (λ e. shows_same l.part e l.config) l.entries
