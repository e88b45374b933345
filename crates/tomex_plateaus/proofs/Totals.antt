-- Sums of the programs' totals.
use Rattle.std.proofs.Common.{◌≡◌, ℕ, suc, ◌+◌, ◌-◌, ◌*◌, ◌≤◌, arith, ap, sym, ◌∙◌, List, [], ◌∷◌, length, take}
use Rattle.std.proofs.Common.{get_or, Some, slice_get, refl, All, min, ◌<◌, drop}
use Rattle.std.specs.Prelude.{sum}
use Rattle.std.proofs.Math.Seq.{drop-cons}
use Rattle.std.proofs.Math.Nat.{mul-le-mul_left}
use Rattle.std.proofs.lemmas.List.Sums.{sum-map, sum_by_more, sum_by-cons, sum_by-take-le, sum_by-le}
use Rattle.std.proofs.lemmas.List.{drop_all, get_or-map, length-map, take_all}
use Rattle.std.proofs.lemmas.Option.{get_or_from_slice_get, slice_get_read, slice_get_within}
use Rattle.tomex_rvexec.specs.Run.{start_of, EndsWithin}
use Rattle.tomex_rvexec.specs.Trace.{steps_from}
use Rattle.tomex_rvexec.specs.declared.step.Step.{Step}
use Rattle.tomex_rvexec.proofs.FlowEnds.{ends_within_more, same_steps}
use Rattle.tomex_config.specs.Configuration.{Configuration, IsWithinLimits}
use Rattle.tomex_timing.specs.History.{greatest_end}
use Rattle.tomex_timing.specs.Search.{history, times_in, total_of}
use Rattle.tomex_timing.proofs.Histories.{total_of-history}
use Rattle.tomex_timing.specs.Run.{run_of, total}
use Rattle.tomex_study.specs.Program.{Workload, IsProgram}
use Rattle.tomex_study.specs.Cycles.{cycles_on, totals_on}
use Rattle.tomex_study.proofs.Bounds.{cycles_bound, total_bound}
use Rattle.tomex_plateaus.specs.Looks.{plain_on, weighted_cycles}
use Rattle.tomex_plateaus.specs.Looks.{LastLookSeesMost, last_look}

-- one more program, plain and weighted

pub plain_more : (programs : List Workload) (place : ℕ) (p : Workload) (config : Configuration)
    → slice_get programs place ≡ Some p → plain_on (take (place + 1) programs) config ≡ plain_on (take place programs)
    config + total config p.image
unfolding plain_on
plain_more programs place p config at =
    let e : get_or programs place p ≡ p = get_or_from_slice_get programs place p p at in
    sum_by_more (λ p. total config p.image) programs place p (slice_get_within programs place p at)
    ∙ ap (λ (q : Workload). plain_on (take place programs) config + total config q.image) e

pub cycles_more : (programs : List Workload) (place : ℕ) (p : Workload) (config : Configuration)
    → slice_get programs place ≡ Some p → cycles_on (take (place + 1) programs) config ≡ cycles_on (take place programs)
    config + p.weight * total config p.image
unfolding cycles_on
cycles_more programs place p config at =
    let e : get_or programs place p ≡ p = get_or_from_slice_get programs place p p at in
    sum_by_more (λ p. p.weight * total config p.image) programs place p (slice_get_within programs place p at)
    ∙ ap (λ (q : Workload). cycles_on (take place programs) config + q.weight * total config q.image) e

pub plain_within : (programs : List Workload) (place : ℕ) (config : Configuration)
    → plain_on (take place programs) config ≤ plain_on programs config
unfolding plain_on
plain_within programs place config = sum_by-take-le (λ p. total config p.image) programs place

pub plain_bound : (programs : List Workload) (config : Configuration) → IsWithinLimits config → length programs ≤ 8
    → plain_on programs config ≤ 140509184
unfolding plain_on
plain_bound programs config lawful few =
    let a : plain_on programs config ≤ length programs * 17563648 =
    sum_by-le (λ p. total config p.image) 17563648 programs
    (λ k d l. total_bound config (get_or programs k d).image lawful) in
    omega arith

pub cycles_within : (programs : List Workload) (place : ℕ) (config : Configuration)
    → cycles_on (take place programs) config ≤ cycles_on programs config
unfolding cycles_on
cycles_within programs place config = sum_by-take-le (λ p. p.weight * total config p.image) programs place

pub no_plain : (programs : List Workload) (config : Configuration) → plain_on (take 0 programs) config ≡ 0
unfolding plain_on
no_plain programs config = refl

pub no_cycles : (programs : List Workload) (config : Configuration) → cycles_on (take 0 programs) config ≡ 0
unfolding cycles_on
no_cycles programs config = refl

pub all_plain : (programs : List Workload) (place : ℕ) (config : Configuration) → length programs ≤ place
    → plain_on (take place programs) config ≡ plain_on programs config
all_plain programs place config past = ap (λ (ps : List Workload). plain_on ps config) (take_all place programs past)

-- the weighted cycles that a configuration has made

weighed_none : (programs : List Workload) (config : Configuration) → weighted_cycles programs config 0 ≡ 0
unfolding weighted_cycles
weighed_none [] config = refl
weighed_none (p ∷ ps) config =
    let rest : weighted_cycles ps config 0 ≡ 0 = weighed_none ps config in
    let few : 0 - total config p.image ≡ 0 = omega arith in
    let least : min 0 (total config p.image) ≡ 0 = omega arith in
    rw (least, few, rest) (omega arith)

-- are no more than all of them
pub weighed_within : (programs : List Workload) (config : Configuration) (n : ℕ)
    → weighted_cycles programs config n ≤ cycles_on programs config
unfolding weighted_cycles cycles_on
weighed_within [] config n = omega arith
weighed_within (p ∷ ps) config n =
    let one : p.weight * min n (total config p.image) ≤ p.weight * total config p.image =
    mul-le-mul_left p.weight (let l : min n (total config p.image) ≤ total config p.image = omega arith in l) in
    let rest : weighted_cycles ps config (n - total config p.image) ≤ cycles_on ps config =
    weighed_within ps config (n - total config p.image) in
    rw sum_by-cons (omega arith)

-- at the end of the runs they are all of them
pub weighed_all : (programs : List Workload) (config : Configuration)
    → weighted_cycles programs config (plain_on programs config) ≡ cycles_on programs config
unfolding weighted_cycles plain_on cycles_on
weighed_all [] config = refl
weighed_all (p ∷ ps) config =
    let all : plain_on (p ∷ ps) config ≡ total config p.image + plain_on ps config =
    sum_by-cons (λ p. total config p.image) p ps in
    let weights : cycles_on (p ∷ ps) config ≡ p.weight * total config p.image + cycles_on ps config =
    sum_by-cons (λ p. p.weight * total config p.image) p ps in
    let least : min (plain_on (p ∷ ps) config) (total config p.image) ≡ total config p.image = omega (arith, all) in
    let left : plain_on (p ∷ ps) config - total config p.image ≡ plain_on ps config = omega (arith, all) in
    rw (least, left, weighed_all ps config) (sym weights)

-- and they grow with the cycles that are made
weighed_grows : (programs : List Workload) (config : Configuration) (m n : ℕ) → m ≤ n
    → weighted_cycles programs config m ≤ weighted_cycles programs config n
unfolding weighted_cycles
weighed_grows [] config m n less = omega arith
weighed_grows (p ∷ ps) config m n less =
    let one : p.weight * min m (total config p.image) ≤ p.weight * min n (total config p.image) =
    mul-le-mul_left p.weight (let l : min m (total config p.image) ≤ min n (total config p.image) = omega arith in l) in
    let rest : weighted_cycles ps config (m - total config p.image)
    ≤ weighted_cycles ps config (n - total config p.image) =
    weighed_grows ps config (m - total config p.image) (n - total config p.image) (omega arith) in
    omega arith

-- no look before the end of a run is later than the last one
look_within : (look n : ℕ) → 1024 * look < n → 1024 * look ≤ last_look n
look_within look n before = omega arith

pub last_look_sees_most : LastLookSeesMost
last_look_sees_most programs config look before = (
  weighed_grows programs config (1024 * look) (last_look (plain_on programs config))
      (look_within look (plain_on programs config) before),
  weighed_within programs config (last_look (plain_on programs config)),
)

-- one program's part of them
pub weighed_step : (programs : List Workload) (i : ℕ) (p : Workload) (config : Configuration) (n : ℕ)
    → i < length programs → p ≡ get_or programs i p
    → weighted_cycles (drop i programs) config n
    ≡ p.weight * min n (total config p.image)
    + weighted_cycles (drop (i + 1) programs) config (n - total config p.image)
unfolding weighted_cycles
weighed_step programs i p config n low is =
    let e : drop i programs ≡ p ∷ drop (i + 1) programs =
    drop-cons programs i p low ∙ (ap (λ (q : Workload). q ∷ drop (suc i) programs) (sym is)
    ∙ ap (λ (k : ℕ). p ∷ drop k programs) (let s : suc i ≡ i + 1 = omega arith in s)) in
    ap (λ (ps : List Workload). weighted_cycles ps config n) e

pub weighed_past : (programs : List Workload) (i : ℕ) (config : Configuration) (n : ℕ) → length programs ≤ i
    → weighted_cycles (drop i programs) config n ≡ 0
unfolding weighted_cycles
weighed_past programs i config n past =
    ap (λ (ps : List Workload). weighted_cycles ps config n) (drop_all i programs past)

-- the sum of the totals
pub plain_sum : (programs : List Workload) (config : Configuration) (totals : List ℕ)
    → totals ≡ totals_on programs config → sum totals ≡ plain_on programs config
unfolding totals_on plain_on
plain_sum programs config totals is = ap sum is ∙ sum-map (λ p. total config p.image) programs

-- the total at a program's place
pub total_at : (programs : List Workload) (config : Configuration) (totals : List ℕ) (i : ℕ) (p : Workload)
    → totals ≡ totals_on programs config → i < length programs → p ≡ get_or programs i p
    → get_or totals i 0 ≡ total config p.image
unfolding totals_on
total_at programs config totals i p is low at =
    ap (λ (ts : List ℕ). get_or ts i 0) is
    ∙ (get_or-map (λ p. total config p.image) programs i p 0 low
    ∙ ap (λ (q : Workload). total config q.image) (sym at))

pub as_many_totals : (programs : List Workload) (config : Configuration) (totals : List ℕ)
    → totals ≡ totals_on programs config → length totals ≡ length programs
unfolding totals_on
as_many_totals programs config totals is = ap length is ∙ length-map _ _

-- one more program's cycles, which are small
pub next_cycles : (programs : List Workload) (i : ℕ) (p : Workload) (config : Configuration) (n cycles : ℕ)
    → IsWithinLimits config → All IsProgram programs → length programs ≤ 8 → i < length programs
    → p ≡ get_or programs i p → n ≡ total config p.image → cycles ≡ cycles_on (take i programs) config
    → (cycles + p.weight * n ≡ cycles_on (take (i + 1) programs) config) × (p.weight * n ≤ 140509184000)
    × (cycles + p.weight * n ≤ 140509184000)
next_cycles programs i p config n cycles lawful ends few low at is so_far =
    let there : slice_get programs i ≡ Some p = slice_get_read programs (length programs) i p refl low at in
    let part : p.weight * n ≡ p.weight * total config p.image = ap (λ (k : ℕ). p.weight * k) is in
    let more = cycles_more programs i p config there in
    let within = cycles_within programs (i + 1) config in
    let most = cycles_bound programs config lawful ends few in (
      omega (arith, part, more, so_far),
      omega (arith, part, more, within, most),
      omega (arith, part, more, so_far, within, most),
    )

pub all_cycles : (programs : List Workload) (place : ℕ) (config : Configuration) → length programs ≤ place
    → cycles_on (take place programs) config ≡ cycles_on programs config
all_cycles programs place config past = ap (λ (ps : List Workload). cycles_on ps config) (take_all place programs past)

pub ends_at_most : (p : Workload) → IsProgram p → EndsWithin p.image 262144
ends_at_most p is = ends_within_more p.image p.limit 262144 is.few_steps is.ends

total_in : (config : Configuration) (steps : List Step)
    → greatest_end (history config steps) ≡ total_of (times_in config steps)
total_in config steps = sym (total_of-history (history config steps))

-- a program's cycles are those of its run within its own limit
pub total_within : (p : Workload) (config : Configuration) → IsProgram p
    → total config p.image ≡ total_of (times_in config (steps_from p.limit (start_of p.image)))
unfolding run_of
total_within p config is =
    let same : steps_from 262144 (start_of p.image) ≡ steps_from p.limit (start_of p.image) =
    same_steps p.image p.limit 262144 is.few_steps is.ends in
    ap (λ (steps : List Step). greatest_end (history config steps)) same
    ∙ total_in config (steps_from p.limit (start_of p.image))
