use Rattle.std.proofs.Common.{◌≡◌, ◌++◌, rules}
use Rattle.tomex_asm.specs.File.{no_header}
use Rattle.tomex_asm.proofs.Joined.{five_joined}
use Rattle.tomex_asm.proofs.file.push_section_headers.Goals as goal

pub returns : goal.returns
returns g c =
    let first : c.push_words.new.file.items ≡ c.args.file.now.items ++ no_header = search rules in
    five_joined c.args.file.now.items _ _ _ _ c.push_names_header.new.file.items _ _ _ _ _ first
    c.in_ok-push_text_header.ensures c.in_ok-push_data_header.ensures c.in_ok-push_symbols_header.ensures
    c.in_ok-push_names_header.ensures
