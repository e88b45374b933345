-- The most cycles of a program's run on a configuration, and of a row.
use Rattle.std.proofs.Common.{ℕ, zero, suc, ◌*◌, ◌≤◌, arith, List, All, get_or, length}
use Rattle.std.specs.Prelude.{Option, None, Some}
use Rattle.std.proofs.Math.Nat.{mul-le-mul}
use Rattle.std.proofs.lemmas.List.Sums.{sum_by-le}
use Rattle.tomex_image.specs.Image.{Loaded}
use Rattle.tomex_rvexec.specs.declared.step.Step.{Step}
use Rattle.tomex_rvexec.specs.Machine.{State, Outcome, Goes, Ends, Faults, step_of, coming_of}
use Rattle.tomex_rvexec.specs.Run.{start_of}
use Rattle.tomex_rvexec.specs.Trace.{steps_from, onto, steps_after}
use Rattle.tomex_config.specs.Configuration.{Configuration, IsWithinLimits}
use Rattle.tomex_timing.specs.History.{greatest_end}
use Rattle.tomex_timing.specs.Search.{history}
use Rattle.tomex_timing.proofs.Histories.{history_bound}
use Rattle.tomex_timing.specs.Run.{most_cycles, run_of, total}
use Rattle.tomex_study.specs.Cycles.{cycles_on}
use Rattle.tomex_study.specs.Program.{Workload, IsProgram}

length_onto : (x : Option Step) (xs : List Step) → length (onto x xs) ≤ suc (length xs)
length_onto None xs = omega arith
length_onto (Some x) xs = omega arith

length_after : (n : ℕ) (o : Outcome) (next : State → List Step) → ((s : State) → length (next s) ≤ n)
    → length (steps_after o next) ≤ n
length_after n (Goes s) next h = h s
length_after n (Ends k) next h = omega arith
length_after n (Faults k) next h = omega arith

length_steps : (n : ℕ) (s : State) → length (steps_from n s) ≤ n
length_steps zero s = omega arith
length_steps (suc n) s =
    let a = length_onto (coming_of s) (steps_after (step_of s) (steps_from n)) in
    let b = length_after n (step_of s) (steps_from n) (length_steps n) in
    omega arith

bounded : (n : ℕ) (config : Configuration) (s : State) → IsWithinLimits config
    → greatest_end (history config (steps_from n s)) ≤ 67 * n
bounded n config s lawful =
    let a : greatest_end (history config (steps_from n s)) ≤ 67 * length (steps_from n s) =
    history_bound config (steps_from n s) lawful in
    let b : length (steps_from n s) ≤ n = length_steps n s in
    omega arith

bounded_on : (config : Configuration) (image : Loaded) → IsWithinLimits config → total config image ≤ 67 * 262144
unfolding run_of
bounded_on config image lawful = bounded 262144 config (start_of image) lawful

pub total_bound : (config : Configuration) (image : Loaded) → IsWithinLimits config → total config image ≤ most_cycles
total_bound config image lawful = let a : total config image ≤ 67 * 262144 = bounded_on config image lawful in
    omega arith

-- a weight is at most 1,000

pub weighs_most : (w n most : ℕ) → w ≤ 1000 → n ≤ most → w * n ≤ 1000 * most
weighs_most w n most l m = mul-le-mul l m

pub cycles_bound : (programs : List Workload) (config : Configuration) → IsWithinLimits config → All IsProgram programs
    → length programs ≤ 8 → cycles_on programs config ≤ 140509184000
unfolding cycles_on
cycles_bound programs config lawful are few =
    let a : cycles_on programs config ≤ length programs * 17563648000 =
    sum_by-le (λ p. p.weight * total config p.image) 17563648000 programs
    (λ k d l. weighs_most (get_or programs k d).weight (total config (get_or programs k d).image) 17563648
    (are k d l).most_weight (total_bound config (get_or programs k d).image lawful)) in
    omega arith
