-- The product of two words fits in 64 bits.
use Rattle.std.proofs.Common.{◌≡◌, ◌∙◌, ◌^◌, ◌*ℤ◌, ap, ap₂, w64, arith}
use Rattle.std.specs.Prelude.{FitsSigned}
use Rattle.std.proofs.lemmas.Int.{fits_signed_mul, ints, to_z-of_z}
use Rattle.tomex_rvexec.specs.Words.{high_half}
use Rattle.tomex_rvexec.proofs.words.high_signed.Goals as goal

pub overflow_mul-sign_extend : goal.overflow_mul-sign_extend
overflow_mul-sign_extend c =
    let left : FitsSigned w64 c.sign_extend.result = omega (arith, ints) in
    let right : FitsSigned w64 c.sign_extend-2.result = omega (arith, ints) in
    simp to_z-of_z (fits_signed_mul w64 c.sign_extend.result c.sign_extend-2.result (2 ^ 31) (2 ^ 31)
    (omega (arith, ints)) (omega (arith, ints)) (omega arith))

pub returns : goal.returns
returns c =
    let left : FitsSigned w64 c.sign_extend.result = omega (arith, ints) in
    let right : FitsSigned w64 c.sign_extend-2.result = omega (arith, ints) in
    let product = fits_signed_mul w64 c.sign_extend.result c.sign_extend-2.result (2 ^ 31) (2 ^ 31)
    (omega (arith, ints)) (omega (arith, ints)) (omega arith) in
    let high : c.high_half_of.result ≡ high_half (c.sign_extend.result *ℤ c.sign_extend-2.result) =
    simp to_z-of_z at c.high_half_of.ensures in
    high ∙ ap high_half (ap₂ ◌*ℤ◌ c.sign_extend.ensures.value c.sign_extend-2.ensures.value)
