-- The accounts of a run in program order.
use Rattle.std.proofs.Common.{ℕ, ◌+◌, ◌*◌, ◌≤◌, ◌≡◌, ◌∙◌, true, arith, refl, ap, sym}
use Rattle.std.proofs.Common.{List, [], ◌∷◌, Option, length, reverse, sum}
use Rattle.std.proofs.lemmas.List.{length-reverse, reverse-reverse}
use Rattle.std.proofs.lemmas.List.Sums.{sum_by-cons, sum_by_push}
use Rattle.tomex_rvdec.specs.declared.pool.UnitId.{UnitId}
use Rattle.tomex_rvexec.specs.declared.step.Step.{Step}
use Rattle.tomex_config.specs.Configuration.{Configuration, IsWithinLimits, latency_of}
use Rattle.tomex_timing.specs.declared.times.Done.{Done}
use Rattle.tomex_timing.specs.History.{greatest_end}
use Rattle.tomex_timing.specs.Search.{history, timed_of}
use Rattle.tomex_timing.proofs.Histories.{are_timed, history_bound, length-history, total_is}
use Rattle.tomex_stretches.specs.Accounts.{RunsAddUp, StretchesTakeTheirFloors, floors_in, own_in}
use Rattle.tomex_stretches.specs.Cycles.{cycles_before, floor_cycles, floors_before, own_cycles}
use Rattle.tomex_stretches.specs.Stretch.{steps_of}
use Rattle.tomex_stretches.proofs.Cycles.{cycles_add_up, cycles_within, floors_are_bounds}
use Rattle.tomex_stretches.proofs.Cycles.{length_cycles, sum_all, sum_keyed}
use Rattle.tomex_stretches.proofs.Keyed.{where_reverse}
use Rattle.tomex_stretches.proofs.Walking.{rev_cons}

pub sum_reverse : (xs : List ℕ) → sum (reverse xs) ≡ sum xs
sum_reverse [] = refl
sum_reverse (x ∷ xs) =
    let rest = sum_reverse xs in
    let push = sum_by_push (λ (n : ℕ). n) (reverse xs) x in
    let cons = sum_by-cons (λ (n : ℕ). n) x xs in
    ap (λ (ys : List ℕ). sum ys) (rev_cons x xs) ∙ omega (arith, rest, push, cons)

steps_of-timed : (config : Configuration) (ys : List Step) → steps_of (timed_of config ys) ≡ ys
steps_of-timed config [] = refl
steps_of-timed config (y ∷ ys) = ap (λ zs. y ∷ zs) (steps_of-timed config ys)

length_before : (next : ℕ) (h : List Done) → length (cycles_before next h) ≡ length h
length_before next [] = refl
length_before next (d ∷ h) = let rest = length_before d.at.issue h in omega (arith, rest)

pub length_own : (config : Configuration) (steps : List Step) → length (own_in config steps) ≡ length steps
length_own config steps =
    length-reverse (own_cycles (history config steps))
    ∙ length_before (greatest_end (history config steps) + 1) (history config steps) ∙ length-history config steps

floors_before_length : (latency : UnitId → ℕ) (w : ℕ) (steps : List Step) (keys : List (Option ℕ))
    → length keys ≡ length steps → length (floors_before latency w steps keys) ≡ length steps
floors_before_length latency w [] keys e = refl
floors_before_length latency w (s ∷ steps) [] e = absurd (omega arith)
floors_before_length latency w (s ∷ steps) (k ∷ keys) e =
    let rest = floors_before_length latency w steps keys (omega arith) in omega (arith, rest)

floor_length : (latency : UnitId → ℕ) (w : ℕ) (steps : List Step) (keys : List (Option ℕ))
    → length keys ≡ length steps → length (floor_cycles latency w steps keys) ≡ length steps
floor_length latency w [] keys e = refl
floor_length latency w (s ∷ steps) [] e = absurd (omega arith)
floor_length latency w (s ∷ steps) (k ∷ keys) e =
    let rest = floors_before_length latency w steps keys (omega arith) in omega (arith, rest)

both_reversed : (steps : List Step) (stretches : List (Option ℕ)) → length stretches ≡ length steps
    → length (reverse stretches) ≡ length (reverse steps)
both_reversed steps stretches e = length-reverse stretches ∙ (e ∙ sym (length-reverse steps))

pub length_floors : (config : Configuration) (steps : List Step) (stretches : List (Option ℕ))
    → length stretches ≡ length steps → length (floors_in config steps stretches) ≡ length steps
length_floors config steps stretches e =
    length-reverse (floor_cycles (latency_of config) config.width (reverse steps) (reverse stretches))
    ∙ floor_length (latency_of config) config.width (reverse steps) (reverse stretches)
    (both_reversed steps stretches e)
    ∙ length-reverse steps

pub runs_add_up : RunsAddUp
runs_add_up config steps good =
    sum_reverse (own_cycles (history config steps))
    ∙ cycles_add_up config (history config steps) good (are_timed config steps good) ∙ total_is config steps

-- the sums fit
pub own_fits : (config : Configuration) (steps : List Step) → IsWithinLimits config
    → sum (own_in config steps) ≤ 67 * length steps
own_fits config steps good =
    let same = sum_reverse (own_cycles (history config steps)) in
    let all = cycles_add_up config (history config steps) good (are_timed config steps good) in
    let bound = history_bound config steps good in
    omega (arith, same, all, bound)

pub stretches_take_their_floors : StretchesTakeTheirFloors
stretches_take_their_floors config other steps stretches p good e narrow slow =
    let h = history other steps in
    let same : steps_of (history other steps) ≡ reverse steps = steps_of-timed other (reverse steps) in
    let bound = rw same at (floors_are_bounds other (latency_of config) config.width (history other steps)
    (reverse stretches) p (are_timed other steps good) narrow slow) in
    let low = where_reverse p (reverse stretches)
    (floor_cycles (latency_of config) config.width (reverse steps) (reverse stretches))
    (both_reversed steps stretches e ∙ sym (floor_length (latency_of config) config.width (reverse steps)
    (reverse stretches) (both_reversed steps stretches e))) in
    let own = where_reverse p (reverse stretches) (own_cycles (history other steps))
    (length-reverse stretches ∙ (e ∙ (sym (length-history other steps)
    ∙ sym (length_before (greatest_end (history other steps) + 1) (history other steps))))) in
    let back = reverse-reverse stretches in
    omega (arith, bound, rw back at low, rw back at own)

pub floors_fit : (config : Configuration) (steps : List Step) (stretches : List (Option ℕ)) → IsWithinLimits config
    → sum (floors_in config steps stretches) ≤ 67 * length steps
floors_fit config steps stretches good =
    let floors = floor_cycles (latency_of config) config.width (reverse steps) (reverse stretches) in
    let turned = sum_reverse (floor_cycles (latency_of config) config.width (reverse steps) (reverse stretches)) in
    let same : steps_of (history config steps) ≡ reverse steps = steps_of-timed config (reverse steps) in
    let bound = rw same at (floors_are_bounds config (latency_of config) config.width (history config steps)
    (reverse stretches) (λ k. true) (are_timed config steps good) (omega arith) (λ u. omega arith)) in
    let all = sum_all (reverse stretches)
    (floor_cycles (latency_of config) config.width (reverse steps) (reverse stretches))
    (length_cycles (latency_of config) config.width (reverse steps) (reverse stretches)) in
    let own = sum_keyed (reverse stretches) (own_cycles (history config steps)) in
    let within = cycles_within config (history config steps) (are_timed config steps good) in
    let most = history_bound config steps good in
    omega (arith, turned, bound, all, own, within, most)
