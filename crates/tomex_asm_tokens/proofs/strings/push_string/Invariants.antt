-- What is pushed, and what is left, are all.
use Rattle.std.proofs.Common.{◌≡◌, ◌++◌}
use Rattle.tomex_asm_tokens.specs.Strings.{bytes_from}
use Rattle.tomex_asm_tokens.proofs.Meant.{meant}
use Rattle.tomex_asm_tokens.proofs.strings.push_string.Given as goal

abbrev pub invariant-loop-place : goal.invariant-loop-place
invariant-loop-place g l = l.out.items ++ meant l.next l.place l.inner ≡ l.fn.out.items ++ bytes_from 0 l.inner
