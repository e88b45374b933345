-- The entries so far, and those to come that none of them shows.
use Rattle.std.proofs.Common.{◌≡◌, ◌++◌, drop}
use Rattle.tomex_compare.specs.Groups.{entries_of}
use Rattle.tomex_compare.proofs.Likeness.{new_entries}
use Rattle.tomex_compare.proofs.entries.entries_of.Given as goal

abbrev pub invariant-loop-config : goal.invariant-loop-config
invariant-loop-config l =
    l.entries.items ++ new_entries l.part l.entries.items (drop l.config-index l.rows) ≡ entries_of l.part l.rows
