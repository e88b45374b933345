-- The rest of the string says where it ends.
use Rattle.std.proofs.Common.{◌≡◌, ◌+◌, ◌-◌, drop}
use Rattle.tomex_asm_tokens.specs.Tokens.{string_end}
use Rattle.tomex_asm_tokens.proofs.literal.string_end.Given as goal

abbrev pub invariant-loop-place : goal.invariant-loop-place
invariant-loop-place l =
    string_end l.begin (l.next - l.place) (l.begin + 1 + l.place) (drop l.place l.rest)
    ≡ string_end l.begin 0 (l.begin + 1) l.rest
