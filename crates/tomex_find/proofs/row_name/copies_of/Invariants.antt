-- The copies so far, and the remaining words.
use Rattle.std.proofs.Common.{◌≡◌, ◌++◌, drop, map}
use Rattle.std.specs.Prelude.{string_bytes}
use Rattle.tomex_find.proofs.row_name.copies_of.Given as goal

abbrev pub invariant-loop-word : goal.invariant-loop-word
invariant-loop-word l = map string_bytes l.copies.items ++ map (λ word. word.now) (drop l.word-index l.words)
    ≡ map (λ word. word.now) l.words
