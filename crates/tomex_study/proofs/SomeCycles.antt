-- A program takes a cycle at least.
use Rattle.std.proofs.Common.{◌<◌, ◌≤◌, arith, ℕ, zero, suc, List, [], ◌∷◌, length, Option, subst, sym}
use Rattle.tomex_image.specs.Image.{Loaded}
use Rattle.tomex_rvexec.specs.declared.step.Step.{Step}
use Rattle.tomex_config.specs.Configuration.{Configuration, IsWithinLimits}
use Rattle.tomex_rvexec.specs.Machine.{State, step_of}
use Rattle.tomex_rvexec.specs.Run.{EndsWithin, Leads, most_steps, start_of}
use Rattle.tomex_rvexec.specs.Trace.{onto, steps_after, steps_from}
use Rattle.tomex_rvexec.proofs.FlowStates.{Coming, ends_by_step, goes_by_step}
use Rattle.tomex_timing.proofs.Bound.{in_reach, timed_by}
use Rattle.tomex_timing.proofs.Histories.{are_timed, length-history}
use Rattle.tomex_timing.specs.History.{greatest_end}
use Rattle.tomex_timing.specs.Recurrence.{AreTimed}
use Rattle.tomex_timing.specs.Run.{run_of, total}
use Rattle.tomex_timing.specs.Search.{history}
use Rattle.tomex_timing.specs.declared.times.Done.{Done}
use Rattle.tomex_study.specs.Program.{IsProgram, Workload}

some_end : (config : Configuration) (h : List Done) → IsWithinLimits config → AreTimed config h → 0 < length h
    → 1 ≤ greatest_end h
some_end config [] good timed some = absurd (omega (arith, some))
some_end config (d ∷ older) good timed some =
    let r = in_reach config older d.step d.at (greatest_end older) good (timed_by config older good timed.1) timed.0 in
    let low : 0 < d.at.issue = r.issue_low in
    let by : d.at.issue ≤ d.at.end = r.issue in
    omega (arith, low, by)

first_step : (n : ℕ) (s : State) → 0 < n → Coming s → 0 < length (steps_from n s)
first_step zero s some is = absurd (omega (arith, some))
first_step (suc n) s some is =
    subst (λ (x : Option Step). 0 < length (onto x (steps_after (step_of s) (steps_from n)))) (sym is.is) (omega arith)

-- a run that reaches a step begins with one
first_coming : (old : State) (k : ℕ) (s : State) → Leads old k s → Coming s → Coming old
first_coming old zero s same is = subst Coming same is
first_coming old (suc k) s leads is = first_coming old k leads.0 leads.1 (goes_by_step leads.0 s leads.2)

some_steps : (n : ℕ) (i : Loaded) (limit : ℕ) → 0 < n → EndsWithin i limit → 0 < length (steps_from n (start_of i))
some_steps n i limit some ends =
    let at = ends.4 in
    first_step n (start_of i) some
    (first_coming (start_of i) ends.0 ends.1 at.leads (ends_by_step ends.1 ends.2 at.ends))

total_of_steps : (config : Configuration) (i : Loaded) (n limit : ℕ) → IsWithinLimits config → 0 < n
    → EndsWithin i limit → 1 ≤ greatest_end (history config (steps_from n (start_of i)))
total_of_steps config i n limit good some ends =
    let long = length-history config (steps_from n (start_of i)) in
    let there = some_steps n i limit some ends in
    some_end config (history config (steps_from n (start_of i))) good
    (are_timed config (steps_from n (start_of i)) good) (omega (arith, long, there))

pub some_cycles : (config : Configuration) (p : Workload) → IsWithinLimits config → IsProgram p
    → 1 ≤ total config p.image
unfolding run_of
some_cycles config p good is = total_of_steps config p.image most_steps p.limit good (omega arith) is.ends
