use Rattle.std.proofs.Common.{◌≡◌, ◌++◌, [], ◌∷◌, rules}
use Rattle.std.proofs.lemmas.Result.{on_ok_weaker}
use Rattle.tomex_elf.specs.File.{halves, identification, words}
use Rattle.tomex_elf.proofs.Files.{four_joined}
use Rattle.tomex_elf.proofs.file.push_file_header.Goals as goal

pub returns : goal.returns
returns g c =
    let sections = c.args.sections in
    let first : c.extend_from_slice.new.self.items ≡ c.args.file.now.items ++ identification = search rules in
    let second : c.push_halves.new.file.items ≡ c.extend_from_slice.new.self.items ++ halves (2 ∷ 243 ∷ []) =
    search rules in
    let third : c.push_words.new.file.items
    ≡ c.push_halves.new.file.items ++ words (1 ∷ c.args.entry ∷ 52 ∷ sections.offset ∷ 0 ∷ []) = search rules in
    let last : c.as_slice-4.result.now ≡ 52 ∷ 32 ∷ 1 ∷ sections.header_size ∷ sections.count ∷ sections.names ∷ [] =
    search rules in
    on_ok_weaker c.push_halves-2.result
    (λ e. four_joined c.args.file.now.items _ _ _ c.push_halves-2.new.file.items _ _ _ _ first second third
    (rw last at e)) c.push_halves-2.ensures
