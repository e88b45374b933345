-- The tokens so far, and those of the rest, are all.
use Rattle.std.proofs.Common.{◌≡◌, ◌-◌, drop}
use Rattle.tomex_asm_tokens.specs.Tokens.{tokens_from}
use Rattle.tomex_asm_tokens.proofs.Lines.{with_front}
use Rattle.tomex_asm_tokens.proofs.lexing.read_tokens.Given as goal

abbrev pub invariant-loop-at : goal.invariant-loop-at
invariant-loop-at g l =
    with_front l.out.items (tokens_from (l.next - l.at) l.at (drop l.at l.line)) ≡ tokens_from 0 0 l.line
