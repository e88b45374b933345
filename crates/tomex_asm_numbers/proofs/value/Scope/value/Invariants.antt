-- The value as far as it is read, with the tokens that are left, is the value.
use Rattle.std.proofs.Common.{◌≡◌, drop}
use Rattle.tomex_asm_numbers.specs.Indexed.{scope_of}
use Rattle.tomex_asm_numbers.specs.Values.{nothing_yet, value_from}
use Rattle.tomex_asm_numbers.proofs.value.Scope.value.Given as goal

abbrev pub invariant-loop-token : goal.invariant-loop-token
invariant-loop-token g l =
    value_from (scope_of l.self) l.line l.begin l.partial (drop l.token-index l.tokens)
    ≡ value_from (scope_of l.self) l.line l.begin nothing_yet l.tokens
