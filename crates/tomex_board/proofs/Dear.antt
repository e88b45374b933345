-- Floors rise: once the floor of a band is above a row's cost, so are those of all bands after it, and a look may end.
use Rattle.std.proofs.Common.{◌≡◌, ℕ, zero, suc, ◌+◌, ◌-◌, ◌<◌, ◌≤◌, List, length, get_or, ap, subst, arith}
use mathlib.Core.Logic.{dite}
use native.Mathlib.Decide.{ℕ_discrete}
use Rattle.tomex_board.specs.declared.view.View.{View}
use Rattle.tomex_board.specs.Bands.{floors_of}
use Rattle.tomex_board.specs.Looking.{IsLeastSoFar, SeesEach}
use Rattle.tomex_board.proofs.Looks.{passes, skips}
use Rattle.tomex_board.proofs.Rising.{floors_rise}

-- the floors of so many bands from k on are above the cost
abbrev pub AreDear : List ℕ → (cost k n : ℕ) → Type 0
AreDear floors cost k n = (j : ℕ) → k ≤ j → j < k + n → cost < get_or floors j 0

pub dear_on : (costs : List ℕ) (cost k n : ℕ) → k + n ≡ length (floors_of costs)
    → cost < get_or (floors_of costs) k 0 → AreDear (floors_of costs) cost k n
dear_on costs cost k n all dear j from low = dite (ℕ_discrete k j)
    (λ e. let same = ap (λ (i : ℕ). get_or (floors_of costs) i 0) e in omega arith)
    (λ ne. let above = floors_rise costs k j (omega arith) (omega arith) in omega arith)

module _ (costs cycles floors : List ℕ) (cost : ℕ) where
  pub none_missed : (k n : ℕ) (v : View) (w : ℕ) → AreDear floors cost k n
      → IsLeastSoFar costs cycles floors cost k v w → IsLeastSoFar costs cycles floors cost (k + n) v w
  none_missed k zero v w dear t =
      let e : k ≡ k + 0 = omega arith in
      subst (λ (m : ℕ). IsLeastSoFar costs cycles floors cost m v w) e t
  none_missed k (suc n) v w dear t =
      let e : k + 1 + n ≡ k + suc n = omega arith in
      subst (λ (m : ℕ). IsLeastSoFar costs cycles floors cost m v w) e
      (none_missed (k + 1) n v w (λ j from low. dear j (omega arith) (omega arith))
      (skips costs cycles floors cost k v w (dear k (omega arith) (omega arith)) t))

  pub none_unseen : (k n : ℕ) (u v : View) → AreDear floors cost k n → SeesEach floors cost k u v
      → SeesEach floors cost (k + n) u v
  none_unseen k zero u v dear t =
      let e : k ≡ k + 0 = omega arith in
      subst (λ (m : ℕ). SeesEach floors cost m u v) e t
  none_unseen k (suc n) u v dear t =
      let e : k + 1 + n ≡ k + suc n = omega arith in
      subst (λ (m : ℕ). SeesEach floors cost m u v) e
      (none_unseen (k + 1) n u v (λ j from low. dear j (omega arith) (omega arith))
      (passes costs cycles floors cost k u v (dear k (omega arith) (omega arith)) t))

  -- a look that ends at the band k, of which all bands are past or dear
  pub looked_enough : (k : ℕ) (v : View) (w : ℕ) → k ≤ length floors → AreDear floors cost k (length floors - k)
      → IsLeastSoFar costs cycles floors cost k v w → IsLeastSoFar costs cycles floors cost (length floors) v w
  looked_enough k v w within dear t =
      let e : k + (length floors - k) ≡ length floors = omega arith in
      subst (λ (m : ℕ). IsLeastSoFar costs cycles floors cost m v w) e (none_missed k (length floors - k) v w dear t)

  pub seen_enough : (k : ℕ) (u v : View) → k ≤ length floors → AreDear floors cost k (length floors - k)
      → SeesEach floors cost k u v → SeesEach floors cost (length floors) u v
  seen_enough k u v within dear t =
      let e : k + (length floors - k) ≡ length floors = omega arith in
      subst (λ (m : ℕ). SeesEach floors cost m u v) e (none_unseen k (length floors - k) u v dear t)
