-- The text so far, and the rows to come.
use Rattle.std.proofs.Common.{◌≡◌, ◌++◌, drop}
use Rattle.std.specs.Prelude.{string_bytes}
use Rattle.std.specs.List.{flat_map}
use Rattle.tomex_page_tables.specs.Asked.{program_row}
use Rattle.tomex_page_tables.proofs.asked.push_program_rows.Given as goal

abbrev pub invariant-loop-program : goal.invariant-loop-program
invariant-loop-program g l =
    string_bytes l.text ++ flat_map program_row (drop l.program-index l.programs)
    ≡ string_bytes l.fn.text ++ flat_map program_row l.programs
