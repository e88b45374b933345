-- Tests by parts.
use Rattle.std.proofs.Common.{◌≡◌, Bool, true, false, refl, sym, not, ◌&&◌}
use Rattle.std.proofs.Math.Bool.{and-true}
pub use Rattle.std.proofs.Math.Bool.{and_assoc, and_comm as and_swap}

pub and_true : (x : Bool) → x ≡ (x && true)
and_true x = sym (and-true x)

pub and_but : (x y : Bool) → (x && not y) ≡ (x && not (x && y))
and_but true y = refl
and_but false y = refl

-- what fails, though all parts before the last pass
pub last_fails : (x y : Bool) → x ≡ true → (x && y) ≡ false → y ≡ false
last_fails true y e f = f
last_fails false y e f = absurd (cc)
