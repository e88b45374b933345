-- The number of the digits so far, or the least one that 32 bits don't hold.
use Rattle.std.proofs.Common.{◌≡◌, ◌≤◌, ◌^◌, min, take}
use Rattle.std.specs.Str.Parse.{digits_value}
use Rattle.tomex_asm_tokens.proofs.numeral.value_of.Given as goal

abbrev pub invariant-loop-digit : goal.invariant-loop-digit
invariant-loop-digit l =
    record {
      number : l.value ≡ min (digits_value l.base (take l.digit-index l.digits)) (2 ^ 32);
      bound : l.value ≤ 2 ^ 32;
    }
