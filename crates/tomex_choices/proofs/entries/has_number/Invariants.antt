-- The remaining rows.
use Rattle.std.proofs.Common.{◌≡◌, drop}
use Rattle.tomex_choices.specs.Asking.{has_number}
use Rattle.tomex_choices.proofs.entries.has_number.Given as goal

abbrev pub invariant-loop-config : goal.invariant-loop-config
invariant-loop-config l =
    has_number (drop l.config-index l.rows) l.part l.number ≡ has_number l.rows l.part l.number
