-- The text so far, and the rows to come.
use Rattle.std.proofs.Common.{◌≡◌, ◌++◌, drop}
use Rattle.std.specs.Prelude.{codes, string_bytes}
use Rattle.std.specs.List.{flat_map}
use Rattle.tomex_pareto.specs.declared.front_row.FrontRow.{FrontRow}
use Rattle.tomex_page_tables.specs.Front.{row_text}
use Rattle.tomex_page_tables.proofs.steps.push_others.Given as goal

abbrev pub invariant-loop-row : goal.invariant-loop-row
invariant-loop-row g l =
    string_bytes l.text
    ++ flat_map (λ (r : FrontRow). codes ", " ++ row_text l.shown r.row) (drop l.row-index l.rows)
    ≡ string_bytes l.fn.text ++ flat_map (λ (r : FrontRow). codes ", " ++ row_text l.shown r.row) l.rows
