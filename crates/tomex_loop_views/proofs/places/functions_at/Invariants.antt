-- The functions so far.
use Rattle.std.proofs.Common.{◌≡◌, List, map, take}
use Rattle.std.specs.Prelude.{All}
use Rattle.tomex_rvexec.specs.declared.step.Step.{Step}
use Rattle.tomex_symbols.specs.declared.symbol.Symbol.{Symbol}
use Rattle.tomex_symbols.specs.Functions.{function_at}
use Rattle.tomex_functions.specs.Kept.{HasAddress, IsIndexOf}
use Rattle.tomex_loop_views.proofs.places.functions_at.Given as goal

abbrev pub invariant-loop-address : goal.invariant-loop-address
invariant-loop-address g l = (symbols : List Symbol) (steps : List Step) → IsIndexOf symbols steps l.index
    → All (λ pc. HasAddress pc steps) l.addresses
    → l.functions.items ≡ map (function_at symbols) (take l.address-index l.addresses)
