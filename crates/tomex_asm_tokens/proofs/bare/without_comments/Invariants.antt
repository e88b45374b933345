-- What is bare so far, and what is left of the rest.
use Rattle.std.proofs.Common.{◌≡◌, ◌++◌, drop}
use Rattle.tomex_asm_tokens.specs.declared.mode.Mode.TheVariants.{Code}
use Rattle.tomex_asm_tokens.specs.Bare.{bare_from}
use Rattle.tomex_asm_tokens.proofs.bare.without_comments.Given as goal

abbrev pub invariant-loop-place : goal.invariant-loop-place
invariant-loop-place g l = l.bytes.items ++ bare_from l.mode (drop l.place l.text) ≡ bare_from Code l.text
