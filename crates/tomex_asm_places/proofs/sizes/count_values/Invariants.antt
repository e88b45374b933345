-- The values so far, and those of the tokens that are left.
use Rattle.std.proofs.Common.{◌≡◌, ◌+◌, ◌≤◌, drop}
use Rattle.tomex_asm_places.specs.Places.{count_values}
use Rattle.tomex_asm_places.proofs.sizes.count_values.Given as goal

abbrev pub invariant-loop-token : goal.invariant-loop-token
invariant-loop-token l =
    record {
      few : l.count ≤ l.token-index + 1;
      all : l.count + count_values (drop l.token-index l.values) ≡ count_values l.values + 1;
    }
