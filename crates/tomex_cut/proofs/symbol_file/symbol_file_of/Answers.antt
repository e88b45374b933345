use Rattle.std.proofs.Common.{ℕ, ◌+◌, ◌++◌, ◌∙◌, ap, length, arith}
use Rattle.tomex_elf.specs.File.{headers}
use Rattle.tomex_cut.proofs.Counted.{are_near, few_symbols}
use Rattle.tomex_cut.proofs.SymbolFiles.{file_joined}
use Rattle.tomex_cut.proofs.symbol_file.symbol_file_of.Goals as goal

pub push_listing-requires-clause-named : goal.push_listing-requires-clause-named
push_listing-requires-clause-named g c =
    rw (c.as_slice.ensures.value, c.in_ok-symbols.ensures.value, c.names_of-names.ensures.start)
    (are_near c.args.bytes.now c.requires.bytes)

pub push_listing-requires-clause-few : goal.push_listing-requires-clause-few
push_listing-requires-clause-few g c =
    let few = few_symbols c.args.bytes.now in
    let all = ap length (c.as_slice.ensures.value ∙ c.in_ok-symbols.ensures.value) in
    let names = c.names_of-names.ensures.few in
    (omega arith, omega arith)

pub returns : goal.returns
returns g c =
    file_joined _ _ _ _ c.args.memory.now c.args.bytes.now c.args.window c.args.entry _ _ _ c.in_ok-file.ensures.items
    (c.in_ok-push_headers.ensures
    ∙ ap (λ (b : ℕ). c.in_ok-file.file.items ++ headers (record { base = b; size = c.size-2.result }) c.args.entry
    (record { offset = 84 + c.size.result; header_size = 40; count = 4; names = 3 })) c.base.ensures.value
    ∙ ap (λ (n : ℕ). c.in_ok-file.file.items
    ++ headers (record { base = c.args.window.base; size = n }) c.args.entry
    (record { offset = 84 + c.size.result; header_size = 40; count = 4; names = 3 })) c.size-2.ensures.value
    ∙ ap (λ (n : ℕ). c.in_ok-file.file.items ++ headers c.args.window c.args.entry
    (record { offset = 84 + n; header_size = 40; count = 4; names = 3 })) c.size.ensures.value)
    c.in_ok-extend_from_slice.ensures.items c.in_ok-push_listing.ensures
    (c.as_slice.ensures.value ∙ c.in_ok-symbols.ensures.value) c.names_of-names.ensures.start
    c.names_of-names.ensures.bytes
