use Rattle.std.proofs.Common.{◌≡◌, ◌++◌, ◌%◌, ◌^◌, ℕ, rules, map, length, ap, ◌∙◌, sym}
use Rattle.std.proofs.lemmas.List.{length-map}
use Rattle.tomex_asm.specs.File.{section_headers, section_names}
use Rattle.tomex_asm.specs.Named.{symbol_of}
use Rattle.tomex_asm.proofs.Joined.{six_joined}
use Rattle.tomex_asm.proofs.file.push_listing.Goals as goal

pub returns : goal.returns
returns g c =
    let symbols = map symbol_of c.args.symbols.now in
    let names : c.extend_from_slice.new.self.items ≡ c.push_names.new.file.items ++ section_names = search rules in
    let count : length c.args.symbols.now % 2 ^ 32 ≡ length symbols % 2 ^ 32 =
    ap (λ (n : ℕ). n % 2 ^ 32) (sym (length-map c.args.symbols.now symbol_of)) in
    six_joined c.args.file.now.items _ _ _ _ _ c.extend_from_slice.new.self.items _ _ _ _ _ _
    (c.in_ok-push_section_headers.ensures
    ∙ ap (λ (n : ℕ). c.args.file.now.items ++ section_headers c.args.frame c.args.text c.args.contents c.args.start n
    c.args.locals c.names_end-names.result) count
    ∙ ap (λ (n : ℕ). c.args.file.now.items ++ section_headers c.args.frame c.args.text c.args.contents c.args.start
    (length symbols % 2 ^ 32) c.args.locals n) c.names_end-names.ensures)
    c.in_ok-push_zeros.ensures c.in_ok-push_entries.ensures c.in_ok-push.ensures.items c.in_ok-push_names.ensures names
