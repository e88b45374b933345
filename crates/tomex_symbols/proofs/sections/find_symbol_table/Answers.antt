-- The next section is the first symbol table, or is skipped.
use Rattle.std.proofs.Common.{◌<◌, ◌∙◌, sym, arith}
use Rattle.tomex_symbols.specs.Sections.{section_count}
use Rattle.tomex_symbols.proofs.Entries.{table_found, table_passed}
use Rattle.tomex_symbols.proofs.sections.find_symbol_table.Goals as goal

pub returns-then-is_symbol_table : goal.returns-then-is_symbol_table
returns-then-is_symbol_table c =
    let n = c.read_section_count-number-end.ensures in
    let m = c.loop-number-test.true in
    let l : c.loop-number.number < section_count c.args.bytes.now = omega arith in
    table_found c.args.bytes.now (section_count c.args.bytes.now) c.loop-number.number _ _ l
    c.read_section-section.ensures (sym c.is_symbol_table.ensures ∙ c.if-is_symbol_table.true) c.loop-number.invariant

pub loop-number-preserved : goal.loop-number-preserved
loop-number-preserved c =
    let n = c.read_section_count-number-end.ensures in
    let m = c.loop-number-test.true in
    let l : c.loop-number.number < section_count c.args.bytes.now = omega arith in
    table_passed c.args.bytes.now (section_count c.args.bytes.now) c.loop-number.number _ _ l
    c.read_section-section.ensures (sym c.is_symbol_table.ensures ∙ c.if-is_symbol_table.false) c.loop-number.invariant
