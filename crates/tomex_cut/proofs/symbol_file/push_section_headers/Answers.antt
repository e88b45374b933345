use Rattle.std.proofs.Common.{◌≡◌, ◌+◌, ◌*◌, ◌++◌, [], ◌∷◌, rules}
use Rattle.std.proofs.lemmas.Result.{on_ok_weaker}
use Rattle.tomex_elf.specs.File.{words}
use Rattle.tomex_cut.specs.SymbolFile.{names_at, symbols_at}
use Rattle.tomex_elf.proofs.Files.{four_joined}
use Rattle.tomex_cut.proofs.symbol_file.push_section_headers.Goals as goal

pub returns : goal.returns
returns g c =
    let window = c.args.window in
    let size = c.args.size in
    let count = c.args.count in
    let first : c.push_words.new.file.items
    ≡ c.args.file.now.items ++ words (0 ∷ 0 ∷ 0 ∷ 0 ∷ 0 ∷ 0 ∷ 0 ∷ 0 ∷ 0 ∷ 0 ∷ []) = search rules in
    let second : c.push_words-2.new.file.items ≡ c.push_words.new.file.items
    ++ words ((size + 1) ∷ 1 ∷ 6 ∷ window.base ∷ 84 ∷ window.size ∷ 0 ∷ 0 ∷ 4 ∷ 0 ∷ []) = search rules in
    let third : c.push_words-3.new.file.items ≡ c.push_words-2.new.file.items
    ++ words ((size + 7) ∷ 2 ∷ 0 ∷ 0 ∷ symbols_at window ∷ (16 * (count + 1)) ∷ 3 ∷ (c.args.locals + 1) ∷ 4 ∷ 16
    ∷ []) = search rules in
    let last : c.as_slice-4.result.now
    ≡ (size + 15) ∷ 3 ∷ 0 ∷ 0 ∷ names_at window count ∷ (size + 23) ∷ 0 ∷ 0 ∷ 1 ∷ 0 ∷ [] = search rules in
    on_ok_weaker c.push_words-4.result
    (λ e. four_joined c.args.file.now.items _ _ _ c.push_words-4.new.file.items _ _ _ _ first second third
    (rw last at e)) c.push_words-4.ensures
