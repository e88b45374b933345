use Rattle.std.proofs.Common.{◌++◌, ℕ, ap, length, ◌∙◌, arith}
use Rattle.std.proofs.lemmas.Grind.{common_steps}
use Rattle.tomex_cut.specs.SymbolFile.{section_headers}
use Rattle.tomex_elf.proofs.Files.{four_joined}
use Rattle.tomex_cut.proofs.symbol_file.push_listing.Goals as goal

pub returns : goal.returns
returns g c =
    four_joined c.args.file.now.items _ _ _ c.extend_from_slice-2.new.self.items _ _ _ _
    (c.in_ok-push_section_headers.ensures
    ∙ ap (λ (k : ℕ). c.args.file.now.items
    ++ section_headers c.args.window (length c.args.symbols.now) k (length c.args.names.now))
    c.count_locals-locals.ensures)
    c.in_ok-push_symbol_table.ensures c.in_ok-extend_from_slice.ensures.items
    (c.in_ok-extend_from_slice-2.ensures.items
    ∙ ap (λ ys. c.extend_from_slice.new.self.items ++ ys) c.as_slice.ensures)

pub push_section_headers-requires : goal.push_section_headers-requires
push_section_headers-requires = grind (arith, common_steps)

pub overflow_cast-locals : goal.overflow_cast-locals
overflow_cast-locals = grind (arith, common_steps)
