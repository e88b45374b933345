-- No floor of a program is greater than the most cycles of a run, and so none is large if weighed.
use Rattle.std.proofs.Common.{◌≡◌, ℕ, ◌-◌, ◌*◌, ◌≤◌, arith, ap, inl, ◌∙◌, List, get_or}
use Rattle.std.proofs.Math.Nat.{mul-le-mul_left, mul-le-mul_right}
use Rattle.std.proofs.lemmas.Bool.Decides.{nat_tests}
use Rattle.tomex_config.specs.Configuration.{Configuration, IsWithinLimits, latency_of, with_width}
use Rattle.tomex_config.proofs.Within.{width_within}
use Rattle.tomex_floor.specs.Floor.{floor_of, floors_by_width}
use Rattle.tomex_floor.proofs.Above.{floor_is_bound}
use Rattle.tomex_floor.proofs.SameFloors.{floor_of_width}
use Rattle.tomex_plateaus.proofs.Totals.{total_within}
use Rattle.tomex_study.proofs.Bounds.{total_bound}
use Rattle.tomex_study.specs.Program.{IsProgram, Workload, steps_of}
use Rattle.tomex_timing.specs.Run.{total}
use Rattle.tomex_timing.specs.Search.{times_in, total_of}

-- no floor is greater than the most cycles of a run
pub floor_bound : (p : Workload) (c : Configuration) (w : ℕ) → IsProgram p → IsWithinLimits c → 1 ≤ w → w ≤ 4
    → floor_of (latency_of c) w (steps_of p) ≤ 17563648
floor_bound p c w is within some few =
    let wide = with_width c w in
    let lawful : IsWithinLimits wide = width_within c w within (grind (arith, nat_tests)) in
    let low : floor_of (latency_of c) w (steps_of p) ≤ total_of (times_in wide (steps_of p)) =
    floor_is_bound wide (latency_of c) w (steps_of p) lawful (omega arith) (λ unit. inl (omega arith)) in
    let runs : total wide p.image ≡ total_of (times_in wide (steps_of p)) = total_within p wide is in
    let high : total wide p.image ≤ 17563648 = total_bound wide p.image lawful in
    omega (arith, runs)

-- times a weight
pub weighed_small : (p : Workload) (c : Configuration) (w : ℕ) (floors : List ℕ) (weight : ℕ) → IsProgram p
    → IsWithinLimits c → 1 ≤ w → w ≤ 4 → floors ≡ floors_by_width (latency_of c) (steps_of p) → weight ≤ 1000
    → weight * get_or floors (w - 1) 0 ≤ 17563648000
weighed_small p c w floors weight is within some few are light =
    let same : get_or floors (w - 1) 0 ≡ floor_of (latency_of c) w (steps_of p) =
    ap (λ (fs : List ℕ). get_or fs (w - 1) 0) are ∙ floor_of_width (latency_of c) (steps_of p) w some few in
    let low = floor_bound p c w is within some few in
    let most : get_or floors (w - 1) 0 ≤ 17563648 = omega (arith, same, low) in
    let one : weight * get_or floors (w - 1) 0 ≤ weight * 17563648 = mul-le-mul_left weight most in
    let other : weight * 17563648 ≤ 1000 * 17563648 = mul-le-mul_right 17563648 light in
    omega (arith, one, other)
