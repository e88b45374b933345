-- What is pushed, and the definitions that are left, are all.
use Rattle.std.proofs.Common.{◌≡◌, ◌++◌, ℕ, List, drop, map}
use Rattle.tomex_asm_numbers.specs.Indexed.{definition_of}
use Rattle.tomex_asm_words.specs.Words.{Remark}
use Rattle.tomex_asm.specs.File.{attributes_of, chosen}
use Rattle.tomex_asm.specs.Named.{attributes_at, symbol_of}
use Rattle.tomex_asm.proofs.symbols.push_symbols.Given as goal

abbrev pub invariant-loop-definition : goal.invariant-loop-definition
invariant-loop-definition g l =
    (remarks : List Remark) → ((w : List ℕ) → attributes_at l.index w ≡ attributes_of w remarks)
    → map symbol_of l.symbols.items
    ++ chosen l.locals l.frame remarks (map definition_of (drop l.definition-index l.definitions))
    ≡ map symbol_of l.fn.symbols.items ++ chosen l.locals l.frame remarks (map definition_of l.definitions)
