-- A run whose path waits for no station, unit or bus takes as long as its floor, and if it doesn't wait for the width
-- either, as long as that of each greater width.
use Rattle.std.proofs.Common.{ℕ, ◌≤◌, ◌≡◌, ◌∙◌, true, arith, refl, sym, ap, inl, inr}
use Rattle.std.proofs.Common.{List, [], ◌∷◌, length, not, reverse}
use Rattle.std.specs.Prelude.{nat_lt}
use Rattle.std.proofs.lemmas.Bool.{and_from, and_parts, cases_Bool}
use Rattle.tomex_rvdec.specs.declared.pool.UnitId.{UnitId}
use Rattle.tomex_rvdec.specs.declared.pool.UnitId.TheVariants as units
use Rattle.tomex_rvexec.specs.declared.step.Step.{Step}
use Rattle.tomex_config.specs.Configuration.{Configuration, IsWithinLimits, option_of}
use Rattle.tomex_config.specs.declared.part.Part.TheVariants as parts
use Rattle.tomex_timing.specs.declared.times.Done.{Done}
use Rattle.tomex_timing.specs.Search.{history, timed_of, times_in, total_of}
use Rattle.tomex_timing.proofs.Histories.{are_timed, total_is}
use Rattle.tomex_timing.proofs.Limits.{width_low}
use Rattle.tomex_floor.specs.Floor.{all_without_station, floor_of, floors_of, unlimited}
use Rattle.tomex_config.specs.Configuration.{latency_of}
use Rattle.tomex_floor.proofs.Above.{floor_is_bound, steps_of}
use Rattle.tomex_floor.proofs.Reached.{floors_reached}
use Rattle.tomex_path.specs.declared.link.Link.{Link}
use Rattle.tomex_path.specs.declared.reason.Reason.{Reason}
use Rattle.tomex_path.specs.declared.reason.Reason.TheVariants as reasons
use Rattle.tomex_path.specs.Bound.{FreePathIsWiderFloor, binds, keeps, saved_by_width, width_links}
use Rattle.tomex_path.specs.Laws.{FreePathIsFloor, FreePathIsLeast, is_free, waits_for_part}
use Rattle.tomex_path.specs.Path.{path_of}
use Rattle.tomex_path.proofs.Bounds.{bound_is_least, narrow_saves, operating_rises, path_is_bound}

-- a wait for no part is kept by each machine

free_keeps : (machine : Configuration) (reason : Reason) → not (waits_for_part reason) ≡ true
    → keeps machine reason ≡ true
free_keeps machine (reasons.For (parts.Stations pool)) e = absurd (cc)
free_keeps machine (reasons.For (parts.Units unit)) e = absurd (cc)
free_keeps machine (reasons.For parts.Buses) e = absurd (cc)
free_keeps machine (reasons.For parts.Width) e = refl
free_keeps machine reasons.Branch e = refl
free_keeps machine reasons.Operand e = refl
free_keeps machine reasons.Address e = refl
free_keeps machine reasons.Memory e = refl
free_keeps machine reasons.Order e = refl

free_binds : (machine : Configuration) (ls : List Link) → is_free ls ≡ true → binds machine ls ≡ true
free_binds machine [] e = refl
free_binds machine (l ∷ ls) e =
    let two = and_parts (not (waits_for_part l.reason)) (is_free ls) e in
    and_from (keeps machine l.reason) (binds machine ls) (free_keeps machine l.reason two.0)
    (free_binds machine ls two.1)

pub free_is_least : FreePathIsLeast
free_is_least config other h g good timed second same narrow slow free =
    bound_is_least config other h g good timed second same (free_binds other (path_of config h) free) narrow
    (λ unit some. slow unit)

steps_timed : (config : Configuration) (ys : List Step) → steps_of (timed_of config ys) ≡ ys
steps_timed config [] = refl
steps_timed config (y ∷ ys) = ap (λ zs. y ∷ zs) (steps_timed config ys)

steps_floors : (latency : UnitId → ℕ) (w : ℕ) (ys : List Step) → steps_of (floors_of latency w ys) ≡ ys
steps_floors latency w [] = refl
steps_floors latency w (y ∷ ys) = ap (λ zs. y ∷ zs) (steps_floors latency w ys)

steps_without : (g : List Done) → steps_of (all_without_station g) ≡ steps_of g
steps_without [] = refl
steps_without (b ∷ g) = ap (λ zs. b.step ∷ zs) (steps_without g)

latency_many : (latency : UnitId → ℕ) (w n : ℕ) (unit : UnitId)
    → latency unit ≤ (option_of (unlimited latency w n) unit).latency
latency_many latency w n units.Alu = omega arith
latency_many latency w n units.Mul = omega arith
latency_many latency w n units.Div = omega arith
latency_many latency w n units.Mem = omega arith
latency_many latency w n units.Bru = omega arith

-- if a machine with as many parts as steps saves nothing by its width
free_floor : (config : Configuration) (w : ℕ) (steps : List Step) → IsWithinLimits config → config.width ≤ w
    → is_free (path_of config (history config steps)) ≡ true
    → saved_by_width config (unlimited (latency_of config) w (length (reverse steps)))
    (path_of config (history config steps)) ≡ 0
    → total_of (times_in config steps) ≡ floor_of (latency_of config) w steps
free_floor config w steps good wide free saved =
    let narrow = width_low config good in
    let many = unlimited (latency_of config) w (length (reverse steps)) in
    let reached = floors_reached (latency_of config) w (length (reverse steps)) (reverse steps) (omega arith)
    (omega arith) in
    let second : steps_of reached.0 ≡ reverse steps =
    sym (steps_without reached.0) ∙ (ap steps_of reached.2 ∙ steps_floors (latency_of config) w (reverse steps)) in
    let least = path_is_bound config many (history config steps) reached.0 good (are_timed config steps good) reached.1
    (steps_timed config (reverse steps) ∙ sym second)
    (free_binds many (path_of config (history config steps)) free) in
    let rise = operating_rises config many (path_of config (history config steps))
    (λ unit some. latency_many (latency_of config) w (length (reverse steps)) unit) in
    let bound = floor_is_bound config (latency_of config) w steps good wide (λ u. inl (omega arith)) in
    let total = total_is config steps in
    omega (arith, least, rise, saved, bound, total, reached.3)

pub free_is_floor : FreePathIsFloor
free_is_floor config steps good free =
    free_floor config config.width steps good (omega arith) free
    (narrow_saves config (unlimited (latency_of config) config.width (length (reverse steps)))
    (path_of config (history config steps)) (omega arith))

-- without a wait for the width no width saves anything
unwaited : (config other : Configuration) (ls : List Link) → width_links ls ≡ 0 → saved_by_width config other ls ≡ 0
unwaited config other ls none = elim (cases_Bool (nat_lt config.width other.width)) [
  | inl w ↦ rw w none
  | inr w ↦ rw w refl
]

pub free_is_wider_floor : FreePathIsWiderFloor
free_is_wider_floor config w steps good wide free none =
    free_floor config w steps good wide free
    (unwaited config (unlimited (latency_of config) w (length (reverse steps)))
    (path_of config (history config steps)) none)
