-- Stretches of rows, one after another.
use Rattle.std.proofs.Common.{◌≡◌, ℕ, zero, suc, ◌+◌, ◌*◌, ◌/◌, ◌<◌, ◌≤◌, arith, ap, sym, refl, subst, ◌∙◌}
use Rattle.std.proofs.Common.{map}
use Rattle.std.specs.List.{range_with_len}
use Rattle.std.proofs.Math.Nat.{div-le_of_le-mul, mul-div_cancel_left}
use Rattle.tomex_survey.specs.Stretches.{stretch_of, stretches_of}
use Rattle.tomex_choices.specs.Asking.{IsChain}

from_worker : (rows w k n : ℕ)
    → IsChain (k * rows / w) ((k + n) * rows / w) (map (stretch_of rows w) (range_with_len k n))
from_worker rows w k zero = let e : k + 0 ≡ k = omega arith in ap (λ (m : ℕ). m * rows / w) (sym e)
from_worker rows w k (suc n) =
    let at : k + 1 + n ≡ k + suc n = omega arith in (
      refl,
      subst (λ (m : ℕ). IsChain ((k + 1) * rows / w) (m * rows / w)
          (map (stretch_of rows w) (range_with_len (k + 1) n)))
          at (from_worker rows w (k + 1) n),
    )

none_before : (n w : ℕ) → 0 * n / w ≡ 0
none_before n w =
    let e : 0 * n / w ≤ 0 = div-le_of_le-mul w (let f : 0 * n ≤ w * 0 = omega arith in f) in
    omega arith

-- those of all workers have all rows
pub all_rows_chained : (rows w : ℕ) → 0 < w → IsChain 0 rows (stretches_of rows w)
unfolding stretches_of
all_rows_chained rows w some =
    let last : (0 + w) * rows / w ≡ rows =
    ap (λ (n : ℕ). n * rows / w) (let e : 0 + w ≡ w = omega arith in e) ∙ mul-div_cancel_left rows some in
    subst (λ (m : ℕ). IsChain m rows (map (stretch_of rows w) (range_with_len 0 w))) (none_before rows w)
    (subst (λ (m : ℕ). IsChain (0 * rows / w) m (map (stretch_of rows w) (range_with_len 0 w))) last
    (from_worker rows w 0 w))
