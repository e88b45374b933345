-- The first symbol table is among the sections to come.
use Rattle.std.proofs.Common.{◌≡◌, ◌-◌}
use Rattle.tomex_symbols.specs.Sections.{first_symbol_table, section_count, sections_from}
use Rattle.tomex_symbols.proofs.sections.find_symbol_table.Given as goal

abbrev pub invariant-loop-number : goal.invariant-loop-number
invariant-loop-number l =
    first_symbol_table (sections_from l.bytes 0 (section_count l.bytes))
    ≡ first_symbol_table (sections_from l.bytes l.number (section_count l.bytes - l.number))
