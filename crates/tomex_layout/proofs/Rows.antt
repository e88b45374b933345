-- Numbers and words as they are written, computed by the definitions themselves.
use Rattle.std.proofs.Common.{◌≡◌, refl}
use Rattle.std.specs.Prelude.{codes}
use Rattle.std.specs.Fmt.{digits}
use Rattle.tomex_layout.specs.Aligned.{left_aligned, right_aligned}
use Rattle.tomex_layout.specs.Hundredths.{hundredths}

whole_hundredths : hundredths 157100 ≡ codes "1571.00"
unfolding hundredths digits
whole_hundredths = refl

few_hundredths : hundredths 5 ≡ codes "0.05"
unfolding hundredths digits
few_hundredths = refl

tenths : hundredths 3610 ≡ codes "36.10"
unfolding hundredths digits
tenths = refl

to_the_left : left_aligned 6 (codes "jal") ≡ codes "jal   "
to_the_left = refl

to_the_right : right_aligned 6 (codes "jal") ≡ codes "   jal"
to_the_right = refl

-- a wider word has no spaces
too_wide : left_aligned 2 (codes "jal") ≡ codes "jal"
too_wide = refl
