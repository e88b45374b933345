-- The rest of the rows has the word's.
use Rattle.std.proofs.Common.{◌≡◌, map, drop}
use Rattle.tomex_asm_text.specs.Directives.{section_in}
use Rattle.tomex_asm_text.proofs.directive.section_in.Given as goal

abbrev pub invariant-loop-name : goal.invariant-loop-name
invariant-loop-name l =
    section_in (map (λ row. (row.0.now, row.1)) (drop l.name-index l.rows)) l.word
    ≡ section_in (map (λ row. (row.0.now, row.1)) l.rows) l.word
