-- The tokens so far, and those of the rest that belong to the list.
use Rattle.std.proofs.Common.{◌≡◌, false, drop}
use Rattle.tomex_asm_text.specs.Directives.{elements_from}
use Rattle.tomex_asm_text.proofs.Sizes.{counted}
use Rattle.tomex_asm_text.proofs.list.elements_size.Given as goal

abbrev pub invariant-loop-size : goal.invariant-loop-size
invariant-loop-size l =
    counted l.size (elements_from l.element l.line l.has_element (drop l.size l.rest))
    ≡ elements_from l.element l.line false l.rest
