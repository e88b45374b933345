-- The floors of a run depend on the latencies of the kinds of units that it uses, and on no others.
use Rattle.std.proofs.Common.{◌≡◌, ℕ, zero, suc, ◌-◌, ◌≤◌, arith, ap, sym, refl, subst, ◌∙◌, List, [], ◌∷◌, map}
use Rattle.std.proofs.Common.{reverse}
use Rattle.std.proofs.Common.{Bool}
use Rattle.std.proofs.Common.{true, false, inl, inr, get_or, Option, Some, None}
use Rattle.std.proofs.lemmas.Bool.{cases_Bool}
use Rattle.std.proofs.lemmas.Bool.Decides.{nat_tests}
use Rattle.std.proofs.lemmas.List.Sorted.{IsPermutation-reverse, list_any-IsPermutation}
use Rattle.tomex_rvdec.specs.declared.pool.UnitId.{UnitId}
use Rattle.tomex_rvdec.specs.declared.pool.UnitId.TheVariants as units
use Rattle.tomex_rvexec.specs.Steps.{step_unit}
use Rattle.tomex_rvexec.specs.declared.step.Step.{Step}
use Rattle.tomex_config.specs.Configuration.{Configuration, IsWithinLimits, is_between}
use Rattle.tomex_floor.specs.Floor.{floor_address, floor_from, floor_issue, floor_of, floor_times, floors_by_width}
use Rattle.tomex_floor.specs.Floor.{floors_of}
use Rattle.tomex_config.specs.Configuration.{latency_of}
use Rattle.tomex_timing.specs.History.{greatest_end, is_of}
use Rattle.tomex_config.specs.Cost.{all_units}
use Rattle.tomex_timing.specs.declared.times.Done.{Done}
use Rattle.tomex_timing.specs.declared.times.Times.{Times}
use Rattle.tomex_floor.specs.Flooring.{AreFloorsOf, is_used_by, used_latencies, used_latency}
use Rattle.tomex_floor.specs.declared.floored.KnownFloors.{KnownFloors}

-- the same latency of each kind that a step uses
abbrev pub AreSameFor : List Step → (UnitId → ℕ) → (UnitId → ℕ) → Type 0
AreSameFor steps a b = (unit : UnitId) → is_used_by steps unit ≡ true → a unit ≡ b unit

own_unit : (unit : UnitId) → is_of unit (Some unit) ≡ true
own_unit unit = grind (arith, nat_tests)

same_from : (a b : UnitId → ℕ) (older : List Done) (s : Step) (issue : ℕ) (address : Option ℕ) (of : Option UnitId)
    → ((unit : UnitId) → is_of unit of ≡ true → a unit ≡ b unit)
    → floor_from a older s issue address of ≡ floor_from b older s issue address of
same_from a b older s issue address None same = refl
same_from a b older s issue address (Some unit) same = rw (same unit (own_unit unit)) refl

first_used : (s : Step) (steps : List Step) (unit : UnitId) → is_of unit (step_unit s) ≡ true
    → is_used_by (s ∷ steps) unit ≡ true
first_used s steps unit e = rw e refl

later_used : (s : Step) (steps : List Step) (unit : UnitId) → is_used_by steps unit ≡ true
    → is_used_by (s ∷ steps) unit ≡ true
later_used s steps unit e = elim (cases_Bool (is_of unit (step_unit s))) [ inl f ↦ rw f refl | inr f ↦ rw f e ]

pub same_floors_of : (a b : UnitId → ℕ) (w : ℕ) (steps : List Step) → AreSameFor steps a b
    → floors_of a w steps ≡ floors_of b w steps
same_floors_of a b w [] same = refl
same_floors_of a b w (s ∷ older) same =
    let rest = same_floors_of a b w older (λ unit e. same unit (later_used s older unit e)) in
    let at : floor_times a w (floors_of a w older) s ≡ floor_times b w (floors_of b w older) s =
    same_from a b (floors_of a w older) s (floor_issue w (floors_of a w older))
    (floor_address (floors_of a w older) s (floor_issue w (floors_of a w older))) (step_unit s)
    (λ unit e. same unit (first_used s older unit e))
    ∙ ap (λ (h : List Done). floor_times b w h s) rest in
    ap (λ (t : Times). record { step = s; at = t } ∷ floors_of a w older) at
    ∙ ap (λ (h : List Done). record { step = s; at = floor_times b w (floors_of b w older) s } ∷ h) rest

-- of a run
pub same_floor : (a b : UnitId → ℕ) (w : ℕ) (steps : List Step) → AreSameFor steps a b
    → floor_of a w steps ≡ floor_of b w steps
same_floor a b w steps same =
    let turned : AreSameFor (reverse steps) a b = λ unit e. same unit
    (list_any-IsPermutation (λ s. is_of unit (step_unit s)) steps (reverse steps) (IsPermutation-reverse steps) ∙ e) in
    ap greatest_end (same_floors_of a b w (reverse steps) turned)

pub same_floors : (a b : UnitId → ℕ) (steps : List Step) → AreSameFor steps a b
    → floors_by_width a steps ≡ floors_by_width b steps
same_floors a b steps same =
    rw (
      same_floor a b 1 steps same,
      same_floor a b 2 steps same,
      same_floor a b 3 steps same,
      same_floor a b 4 steps same,
    )
    refl

-- configurations with the same latencies of the kinds that are used

unlocked : (b : Bool) (m n : ℕ) → b ≡ true → used_latency b m ≡ used_latency b n → m ≡ n
unlocked true m n t e = e
unlocked false m n t e = absurd (let f : false ≡ true = t in cc)

used_at : (steps : List Step) (c d : Configuration)
    → used_latencies (map (is_used_by steps) all_units) c ≡ used_latencies (map (is_used_by steps) all_units) d
    → AreSameFor steps (latency_of c) (latency_of d)
used_at steps c d same units.Alu t =
    unlocked (is_used_by steps units.Alu) _ _ t (ap (λ (ns : List ℕ). get_or ns 0 0) same)
used_at steps c d same units.Mul t =
    unlocked (is_used_by steps units.Mul) _ _ t (ap (λ (ns : List ℕ). get_or ns 1 0) same)
used_at steps c d same units.Div t =
    unlocked (is_used_by steps units.Div) _ _ t (ap (λ (ns : List ℕ). get_or ns 2 0) same)
used_at steps c d same units.Mem t =
    unlocked (is_used_by steps units.Mem) _ _ t (ap (λ (ns : List ℕ). get_or ns 3 0) same)
used_at steps c d same units.Bru t =
    unlocked (is_used_by steps units.Bru) _ _ t (ap (λ (ns : List ℕ). get_or ns 4 0) same)

-- the floors that were computed on a configuration are those of each with its latencies
pub floors_known : (steps : List Step) (uses : List Bool) (c : Configuration) (known : KnownFloors)
    → uses ≡ map (is_used_by steps) all_units → known.latencies ≡ used_latencies uses c
    → known.floors ≡ floors_by_width (latency_of c) steps → AreFloorsOf steps uses known
floors_known steps uses c known are latencies is = λ d same.
    same_floors (latency_of d) (latency_of c) steps (used_at steps d c
    (subst (λ (us : List Bool). used_latencies us d ≡ used_latencies us c) are (same ∙ latencies)))
    ∙ sym is

-- at a width
pub floor_of_width : (latency : UnitId → ℕ) (steps : List Step) (w : ℕ) → 1 ≤ w → w ≤ 4
    → get_or (floors_by_width latency steps) (w - 1) 0 ≡ floor_of latency w steps
floor_of_width latency steps (suc zero) some few = refl
floor_of_width latency steps (suc (suc zero)) some few = refl
floor_of_width latency steps (suc (suc (suc zero))) some few = refl
floor_of_width latency steps (suc (suc (suc (suc zero)))) some few = refl
floor_of_width latency steps zero some few = absurd (omega arith)
floor_of_width latency steps (suc (suc (suc (suc (suc w))))) some few = absurd (omega arith)

pub own_floor_is : (c : Configuration) (steps : List Step) (floors : List ℕ) (width : ℕ) → IsWithinLimits c
    → floors ≡ floors_by_width (latency_of c) steps → width ≡ c.width
    → get_or floors (width - 1) 0 ≡ floor_of (latency_of c) c.width steps
own_floor_is c steps floors width within are is =
    rw (are, is) (floor_of_width (latency_of c) steps c.width (low c.width within.width) (high c.width within.width))
  where
    low : (w : ℕ) → is_between 1 4 w ≡ true → 1 ≤ w
    low w within = grind (arith, nat_tests)

    high : (w : ℕ) → is_between 1 4 w ≡ true → w ≤ 4
    high w within = grind (arith, nat_tests)
