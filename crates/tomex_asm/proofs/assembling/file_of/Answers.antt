use Rattle.std.proofs.Common.{◌≡◌, ◌∙◌, ap, map, ◌-◌, arith}
use Rattle.tomex_asm_numbers.specs.Indexed.{definition_of}
use Rattle.tomex_asm_places.specs.Positions.{end_of}
use Rattle.tomex_asm.specs.File.{entry_from}
use Rattle.tomex_asm.specs.Found.{program_of}
use Rattle.tomex_asm.specs.Named.{symbol_of}
use Rattle.tomex_asm.proofs.Made.{made}
use Rattle.tomex_asm.proofs.assembling.file_of.Goals as goal

pub returns : goal.returns
returns g c =
    let p = program_of c.args.program.now in
    let value = c.end.ensures.value in
    let base = c.from.ensures in
    let size : c.end.result - c.from.result ≡ end_of p.base p.position - p.base = omega arith in
    made p c.frame_of-frame.result _ c.entry_of-entry.result c.in_ok-listed.listed.locals _ _ _
    c.new-file.result.items c.push_headers.new.file.items c.push_memory.new.file.items c.push_listing.new.file.items
    c.frame_of-frame.ensures size
    (c.entry_of-entry.ensures
    ∙ ap (λ ds. entry_from c.frame_of-frame.result (map definition_of ds)) c.as_slice.ensures.value)
    c.in_ok-listed.ensures.locals
    (ap (λ ss. map symbol_of ss) c.as_slice-4.ensures.value ∙ c.in_ok-listed.ensures.symbols)
    c.as_slice-2.ensures.value c.as_slice-3.ensures.value c.new-file.ensures.items c.in_ok-push_headers.ensures
    c.in_ok-push_memory.ensures c.in_ok-push_listing.ensures
