-- A number modulo 2 ^ 32.
use Rattle.std.proofs.Common.{◌≡◌, ◌%◌, ◌^◌, ◌<◌, ℤ, pos, negsuc, of_z, w64, refl, arith}
use Rattle.std.specs.Int.Signed.{mag}
use Rattle.tomex_asm_numbers.specs.Numbers.{wrapped}

pub low_bits : (z : ℤ) → mag z < 2 ^ 63 → of_z w64 z % 2 ^ 32 ≡ wrapped z
low_bits (pos n) h = refl
low_bits (negsuc n) h = omega arith
