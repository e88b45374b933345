-- The remaining choices.
use Rattle.std.proofs.Common.{◌≡◌, drop, map, not}
use Rattle.std.specs.List.{find}
use Rattle.std.specs.Prelude.{string_bytes}
use Rattle.tomex_find.specs.Find.{first_unhad, is_had}
use Rattle.tomex_find.proofs.finding.first_unhad.Given as goal

abbrev pub invariant-loop-word : goal.invariant-loop-word
invariant-loop-word g l =
    find (λ word. not (is_had l.study word)) (map string_bytes (drop l.word-index l.words))
    ≡ first_unhad l.study (map string_bytes l.words)
