-- One rival: the values at which it lets a row stay.
use Rattle.std.proofs.Common.{◌≡◌, ◌∙◌, ℕ, ◌+◌, ◌*◌, arith, ap, sym, refl, Bool, true, false, not, nat_le}
use Rattle.std.proofs.Common.{nat_lt, ◌&&◌, ◌||◌}
use Rattle.std.specs.Prelude.{if◌then◌else◌}
use Rattle.std.proofs.lemmas.Bool.Decides.{nat_tests}
use Rattle.tomex_pareto.specs.Front.{dominates}
use Rattle.tomex_pareto.specs.declared.line_row.LineRow.{LineRow}
use Rattle.tomex_pareto.specs.declared.spans.ValueSpan.{ValueSpan}
use Rattle.tomex_pareto.specs.Spans.{as_cost, end_left, first_left, holds, measure_at, narrowed, need}
use Rattle.tomex_pareto.proofs.Lines.{between}

-- a rival that isn't greater in the other measure is too small in this one for the row to stay
abbrev is_below : ℕ → LineRow → LineRow → Bool
is_below q r j = nat_lt (measure_at q j) (need r j + q * r.times)

-- who dominates

by_measures : (a b x y : ℕ) → (nat_le a b && nat_le x y && (nat_lt a b || nat_lt x y))
    ≡ (nat_le x y && nat_lt a (b + (if nat_lt x y then 1 else 0)))
by_measures a b x y = grind (arith, nat_tests)

dominates_is : (q : ℕ) (r j : LineRow)
    → dominates (as_cost q j) (as_cost q r) ≡ (nat_le j.other r.other && is_below q r j)
dominates_is q r j =
    let e : measure_at q r + (if nat_lt j.other r.other then 1 else 0) ≡ need r j + q * r.times = omega arith in
    by_measures (measure_at q j) (measure_at q r) j.other r.other
    ∙ ap (λ (z : ℕ). nat_le j.other r.other && nat_lt (measure_at q j) z) e

-- what a rival leaves of a span

pub and_true : (b : Bool) → (b && true) ≡ b
and_true true = refl
and_true false = refl

leaves : (test below : Bool) (less s : ValueSpan) (q : ℕ) → holds less q ≡ (holds s q && not below)
    → holds (if test then less else s) q ≡ (holds s q && not (test && below))
leaves true below less s q e = e
leaves false below less s q e = sym (and_true (holds s q))

pub narrows : (q : ℕ) (r j : LineRow) (s : ValueSpan)
    → holds (narrowed r s j) q ≡ (holds s q && not (dominates (as_cost q j) (as_cost q r)))
narrows q r j s =
    let less : ValueSpan = record { first = first_left r j s.first; end = end_left r j s.end } in
    leaves (nat_le j.other r.other) (is_below q r j) less s q
    (between s.first s.end q (need r j) j.rest r.times j.times)
    ∙ ap (λ (b : Bool). holds s q && not b) (sym (dominates_is q r j))
