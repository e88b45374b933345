-- The number of the digits so far, modulo 256.
use Rattle.std.proofs.Common.{◌≡◌, ◌%◌, take}
use Rattle.std.specs.Str.Parse.{digits_value}
use Rattle.tomex_asm_tokens.proofs.strings.octal_value.Given as goal

abbrev pub invariant-loop-digit : goal.invariant-loop-digit
invariant-loop-digit l = l.value ≡ digits_value 8 (take l.digit-index l.digits) % 256
