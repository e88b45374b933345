-- The words seen, and the longest of them that a line has.
use Rattle.std.specs.Prelude.{option_map}
use Rattle.std.specs.Str.Iter.{split_whitespace_rest}
use Rattle.tomex_refusals.proofs.Longest.{Seen}
use Rattle.tomex_refusals.proofs.longest_words.longest_word.Given as goal

abbrev pub invariant-loop-word : goal.invariant-loop-word
invariant-loop-word l = Seen l.text (split_whitespace_rest l.word-iterator) (option_map (λ word. word.now) l.longest)
