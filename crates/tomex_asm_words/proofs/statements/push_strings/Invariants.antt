-- What is pushed, and the strings that are left, are all.
use Rattle.std.proofs.Common.{◌≡◌, ◌++◌, drop}
use Rattle.tomex_asm_words.specs.Words.{strings}
use Rattle.tomex_asm_words.proofs.statements.push_strings.Given as goal

abbrev pub invariant-loop-token : goal.invariant-loop-token
invariant-loop-token g l =
    l.bytes.items ++ strings l.line l.with_zero (drop l.token-index l.tokens)
    ≡ l.fn.bytes.items ++ strings l.line l.with_zero l.tokens
