use Rattle.std.proofs.Common.{ap, ◌∙◌, ◌%◌, ◌^◌, ℕ, ℤ, of_z, w64}
use Rattle.std.proofs.lemmas.Int.{to_z-of_z}
use Rattle.tomex_asm_numbers.proofs.Wrapping.{low_bits}
use Rattle.tomex_asm_numbers.proofs.halves.wrapped.Goals as goal

pub returns : goal.returns
returns c =
    ap (λ (n : ℕ). n % 2 ^ 32) (c.cast_unsigned.ensures
    ∙ ap (λ (z : ℤ). of_z w64 z) (to_z-of_z w64 c.args.value c.ranges.value))
    ∙ low_bits c.args.value c.ranges.value.sfits
