-- The remaining choices.
use Rattle.std.proofs.Common.{◌≡◌, drop, map}
use Rattle.std.specs.List.{list_all}
use Rattle.std.specs.Prelude.{string_bytes}
use Rattle.tomex_find.specs.Find.{has_choice}
use Rattle.tomex_find.proofs.named_values.has_all.Given as goal

abbrev pub invariant-loop-word : goal.invariant-loop-word
invariant-loop-word g l =
    list_all (has_choice l.study l.row) (map string_bytes (drop l.word-index l.words))
    ≡ list_all (has_choice l.study l.row) (map string_bytes l.words)
