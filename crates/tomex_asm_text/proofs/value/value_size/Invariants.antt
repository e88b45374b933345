-- The tokens so far, and those of the rest that belong to the value.
use Rattle.std.proofs.Common.{◌≡◌, drop}
use Rattle.tomex_asm_text.specs.declared.value.Position.TheVariants.{Atom}
use Rattle.tomex_asm_text.specs.Values.{value_from}
use Rattle.tomex_asm_text.proofs.Sizes.{counted}
use Rattle.tomex_asm_text.proofs.value.value_size.Given as goal

abbrev pub invariant-loop-size : goal.invariant-loop-size
invariant-loop-size l =
    counted l.size (value_from l.is_list l.line l.position (drop l.size l.rest))
    ≡ value_from l.is_list l.line Atom l.rest
