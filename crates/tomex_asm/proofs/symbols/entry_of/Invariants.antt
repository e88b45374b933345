-- The definitions that are left say where the program begins.
use Rattle.std.proofs.Common.{◌≡◌, drop, map}
use Rattle.tomex_asm_numbers.specs.Indexed.{definition_of}
use Rattle.tomex_asm.specs.File.{entry_from}
use Rattle.tomex_asm.proofs.symbols.entry_of.Given as goal

abbrev pub invariant-loop-definition : goal.invariant-loop-definition
invariant-loop-definition l =
    entry_from l.frame (map definition_of (drop l.definition-index l.definitions))
    ≡ entry_from l.frame (map definition_of l.definitions)
