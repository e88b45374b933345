-- The text so far, and the names to come.
use Rattle.std.proofs.Common.{◌≡◌, ◌++◌, drop}
use Rattle.std.specs.Prelude.{string_bytes}
use Rattle.std.specs.List.{flat_map}
use Rattle.tomex_html.specs.Tables.{column_head}
use Rattle.tomex_page_tables.proofs.settings.push_program_heads.Given as goal

abbrev pub invariant-loop-program : goal.invariant-loop-program
invariant-loop-program g l =
    string_bytes l.text ++ flat_map (λ p. column_head p.name) (drop l.program-index l.programs)
    ≡ string_bytes l.fn.text ++ flat_map (λ p. column_head p.name) l.programs
