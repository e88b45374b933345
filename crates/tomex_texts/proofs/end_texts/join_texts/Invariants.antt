-- The text so far, and the remaining texts, each after a space.
use Rattle.std.proofs.Common.{◌≡◌, ◌++◌, ◌∷◌, drop, map}
use Rattle.std.specs.Prelude.{string_bytes}
use Rattle.std.specs.List.{flat_map}
use Rattle.tomex_texts.specs.FrontReport.{join_texts}
use Rattle.tomex_texts.proofs.end_texts.join_texts.Given as goal

abbrev pub invariant-loop-next : goal.invariant-loop-next
invariant-loop-next l = string_bytes l.text ++ flat_map (λ y. 32 ∷ y) (map string_bytes (drop l.next-index l.rest))
    ≡ join_texts (map string_bytes l.texts)
