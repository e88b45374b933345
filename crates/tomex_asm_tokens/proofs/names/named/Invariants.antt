-- The rest of the rows has the word's.
use Rattle.std.proofs.Common.{◌≡◌, map, drop}
use Rattle.tomex_asm_tokens.specs.Registers.{named}
use Rattle.tomex_asm_tokens.proofs.names.named.Given as goal

abbrev pub invariant-loop-name : goal.invariant-loop-name
invariant-loop-name g l =
    named (map (λ row. (row.0.now, row.1)) (drop l.name-index l.rows)) l.word
    ≡ named (map (λ row. (row.0.now, row.1)) l.rows) l.word
