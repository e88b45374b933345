-- The programs so far, then those of the remaining values.
use Rattle.std.proofs.Common.{◌≡◌, ◌+◌, [], drop}
use Rattle.toml.specs.View.{items_view}
use Rattle.tomex_document.specs.Program.{programs_of}
use Rattle.tomex_document.proofs.document.programs.programs_of.Given as goal

abbrev pub invariant-loop-value : goal.invariant-loop-value
invariant-loop-value g l =
    (l.number ≡ 1 + l.value-index)
    × (programs_of l.number l.entries.items (items_view (drop l.value-index l.values))
    ≡ programs_of 1 [] (items_view l.values))
