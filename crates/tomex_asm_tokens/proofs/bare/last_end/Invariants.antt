-- No end begins from here on.
use Rattle.std.proofs.Common.{◌≡◌, false, drop}
use Rattle.tomex_asm_tokens.specs.Bare.{has_end}
use Rattle.tomex_asm_tokens.proofs.bare.last_end.Given as goal

abbrev pub invariant-loop-place : goal.invariant-loop-place
invariant-loop-place l = has_end (drop l.place l.text) ≡ false
