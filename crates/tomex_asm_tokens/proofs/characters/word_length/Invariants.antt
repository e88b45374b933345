-- The bytes so far are of the word.
use Rattle.std.proofs.Common.{◌≡◌, ◌+◌, drop}
use Rattle.std.specs.List.{prefix_len}
use Rattle.tomex_asm_tokens.specs.Characters.{is_in_word}
use Rattle.tomex_asm_tokens.proofs.characters.word_length.Given as goal

abbrev pub invariant-loop-length : goal.invariant-loop-length
invariant-loop-length l = prefix_len is_in_word l.bytes ≡ l.length + prefix_len is_in_word (drop l.length l.bytes)
