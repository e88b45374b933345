-- No machine takes fewer cycles than the floors of a study.
use Rattle.std.proofs.Common.{◌≡◌, ℕ, ◌*◌, ◌≤◌, arith, ap, refl, List, [], ◌∷◌, map, inl, inr, All}
use Rattle.std.specs.Prelude.{sum_by, unwrap_or}
use Rattle.std.proofs.Math.Nat.{mul-le-mul_left}
use Rattle.std.proofs.lemmas.Bool.Decides.{nat_tests}
use Rattle.std.proofs.lemmas.List.Elements.{All-contains}
use Rattle.std.proofs.lemmas.List.Sums.{sum_by-cons}
use Rattle.tomex_config.specs.Configuration.{Configuration, IsWithinLimits}
use Rattle.tomex_floor.proofs.Above.{floor_is_bound}
use Rattle.tomex_floor.specs.Floor.{floor_of}
use Rattle.tomex_config.specs.Configuration.{latency_of}
use Rattle.tomex_plateaus.proofs.Totals.{total_within}
use Rattle.tomex_study.specs.Cycles.{cycles_on}
use Rattle.tomex_study.specs.Program.{IsProgram, Workload, steps_of}
use Rattle.tomex_timing.specs.Run.{total}
use Rattle.tomex_timing.specs.Search.{times_in, total_of}
use Rattle.tomex_survey.specs.Floors.{any_width, floor_at, least_for, study_floor, weighted_floor}
use Rattle.tomex_choices.specs.Laws.{FloorBoundsAllSizes, FloorBoundsAllWidths, IsNoFaster}
use Rattle.tomex_choices.specs.Passing.{Has}
use Rattle.tomex_choices.proofs.Members.{has_map, least_is}
use Rattle.tomex_choices.proofs.Passes.{contains_from, has_from}

pub sums_rise : {X : Type 0} (f g : X → ℕ) (xs : List X) → ((x : X) → Has xs x → f x ≤ g x) → sum_by f xs ≤ sum_by g xs
sums_rise f g [] less = omega arith
sums_rise f g (x ∷ xs) less =
    let first = less x (inl refl) in
    let rest = sums_rise f g xs (λ y h. less y (inr h)) in
    omega (arith, sum_by-cons f x xs, sum_by-cons g x xs, first, rest)

-- of one program, and of all
one_above : (p : Workload) (c d : Configuration) (width : ℕ) → IsProgram p → IsWithinLimits d → IsNoFaster d c
    → d.width ≤ width → floor_of (latency_of c) width (steps_of p) ≤ total d p.image
one_above p c d width is within slower narrower =
    let low : floor_of (latency_of c) width (steps_of p) ≤ total_of (times_in d (steps_of p)) =
    floor_is_bound d (latency_of c) width (steps_of p) within narrower (λ unit. inl (slower unit)) in
    let runs : total d p.image ≡ total_of (times_in d (steps_of p)) = total_within p d is in
    omega (arith, runs, low)

all_above : (programs : List Workload) (c d : Configuration) (width : ℕ) → All IsProgram programs → IsWithinLimits d
    → IsNoFaster d c → d.width ≤ width → floor_at programs width c ≤ cycles_on programs d
unfolding floor_at cycles_on
all_above programs c d width are within slower narrower =
    sums_rise (weighted_floor width c) (λ p. p.weight * total d p.image) programs
    (λ p h. mul-le-mul_left p.weight
    (one_above p c d width (All-contains IsProgram programs p are (contains_from programs p h)) within slower narrower))

least_low : (rows : List Configuration) (f : Configuration → ℕ) (c : Configuration) → Has rows c
    → least_for rows f ≤ f c
least_low rows f c h =
    let w = least_is (map f rows) (f c) (has_map f rows c h) in
    let e : least_for rows f ≡ w.0 = ap (λ o. unwrap_or o 0) w.1 in
    let l : w.0 ≤ f c = w.2 in
    omega (arith, e, l)

pub floor_is_low : FloorBoundsAllSizes
unfolding study_floor
floor_is_low s c d is row within slower narrower =
    let low = least_low s.rows (λ c. floor_at s.programs c.width c) c (has_from s.rows c row) in
    let above = all_above s.programs c d c.width is.ends within slower narrower in
    omega (arith, low, above)

pub any_width_is_low : FloorBoundsAllWidths
unfolding any_width
any_width_is_low s c d is row within slower =
    let low = least_low s.rows (floor_at s.programs 4) c (has_from s.rows c row) in
    let width = within.width in
    let narrow : d.width ≤ 4 = grind (arith, nat_tests) in
    let above = all_above s.programs c d 4 is.ends within slower narrow in
    omega (arith, low, above)
