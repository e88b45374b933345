-- The bytes so far, and those of the strings that are left.
use Rattle.std.proofs.Common.{◌≡◌, ◌+◌, ◌-◌, ◌^◌, ◌<◌, min, drop}
use Rattle.tomex_asm_places.specs.Places.{strings_size}
use Rattle.tomex_asm_places.proofs.sizes.strings_size.Given as goal

abbrev pub invariant-loop-token : goal.invariant-loop-token
invariant-loop-token l =
    record {
      few : l.size < 2 ^ 64;
      all :
          min (l.size + strings_size l.line l.with_zero (drop l.token-index l.strings)) (2 ^ 64 - 1)
          ≡ min (strings_size l.line l.with_zero l.strings) (2 ^ 64 - 1);
    }
