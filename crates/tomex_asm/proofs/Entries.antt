-- One entry more.
use Rattle.std.proofs.Common.{◌≡◌, ℕ, List, ◌++◌, ◌+◌, ◌<◌, length, ap, sym, ◌∙◌, map, drop, append_assoc, get_or}
use Rattle.std.proofs.lemmas.List.{drop_more}
use Rattle.tomex_asm.specs.declared.symbols.Symbol.{Symbol}
use Rattle.tomex_asm.specs.File.{after_name, entries, entry}
use Rattle.tomex_asm.specs.Named.{symbol_of}

pub entry_more : (new file all : List ℕ) (name next i : ℕ) (symbols : List Symbol) (d : Symbol) → i < length symbols
    → new ≡ file ++ entry name (symbol_of (get_or symbols i d))
    → next ≡ after_name name (symbol_of (get_or symbols i d))
    → file ++ entries name (map symbol_of (drop i symbols)) ≡ all
    → new ++ entries next (map symbol_of (drop (i + 1) symbols)) ≡ all
entry_more new file all name next i symbols d h e n before =
    let rest = map symbol_of (drop (i + 1) symbols) in
    let s = symbol_of (get_or symbols i d) in
    ap (λ (xs : List ℕ). xs ++ entries next rest) e ∙ append_assoc file (entry name s) (entries next rest)
    ∙ ap (λ (m : ℕ). file ++ (entry name s ++ entries m rest)) n
    ∙ sym (ap (λ ss. file ++ entries name (map symbol_of ss)) (drop_more symbols i d h)) ∙ before
