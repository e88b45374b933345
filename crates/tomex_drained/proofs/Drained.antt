-- A drained history looks like the empty one, so the rest of a run has its own times, later by the beginning's cycles.
use Rattle.std.proofs.Common.{ℕ, ◌+◌, ◌-◌, ◌<◌, ◌≤◌, ◌≡◌, ◌∙◌, ◌==◌, arith, refl, sym, ap, inl, inr, false, max}
use Rattle.std.proofs.Common.{List, [], ◌∷◌, ◌++◌, None, is_some, map}
use Rattle.std.proofs.lemmas.Bool.{MatchBool-at_false, lt-ltb, ne_eqb}
use Rattle.tomex_rvexec.specs.Steps.{step_dest}
use Rattle.tomex_rvexec.specs.declared.step.Step.{Step}
use Rattle.tomex_config.specs.Configuration.{Configuration, IsWithinLimits}
use Rattle.tomex_timing.specs.declared.times.Done.{Done}
use Rattle.tomex_timing.specs.declared.times.Times.{Times}
use Rattle.tomex_timing.specs.History.{greatest_end, last_issue}
use Rattle.tomex_timing.specs.Issue.{branch_finish, first_issue}
use Rattle.tomex_timing.specs.Recurrence.{AreTimed, IsLeast, IsTimed, can_end}
use Rattle.tomex_timing.specs.Search.{history, times_in, total_of}
use Rattle.tomex_timing.proofs.AfterEnd.{AllBy, IsDoneBy, count_none, last_issue_by}
use Rattle.tomex_timing.proofs.Bound.{timed_by}
use Rattle.tomex_timing.proofs.Histories.{are_timed, total_is}
use Rattle.tomex_timing.proofs.Limits.{width_low}
use Rattle.tomex_timing.proofs.Tests.{IsAtOnce, IsOperation, at_once, cases_unit, operation}
use Rattle.tomex_alike.specs.Alike.{issued_in, issued_now}
use Rattle.tomex_alike.specs.Laws.{later}
use Rattle.tomex_alike.proofs.Totals.{first_by_end}
use Rattle.tomex_alike.proofs.UpToEnd.{idle_alike}
use Rattle.tomex_drained.specs.Drained.{BranchesDrain, CyclesAddUp, DrainedLooksEmpty, IsDrained, RestIsLater, cycles}
use Rattle.tomex_drained.proofs.Facts.{none_alike, same_steps}
use Rattle.tomex_drained.proofs.Joined.{rest_later, times_first, times_joined, total_joined, total_later}

first_empty : (config : Configuration) → IsWithinLimits config → first_issue config [] ≡ 1
first_empty config good = rw (lt-ltb 0 config.width (width_low config good)) refl

drained_first : (config : Configuration) (h : List Done) → IsWithinLimits config → AreTimed config h → IsDrained h
    → first_issue config h ≡ greatest_end h + 1
drained_first config h good timed all = omega (arith, first_by_end config h good timed, all)

-- nothing issues after the greatest end
issued_none : (h : List Done) (g t : ℕ) → AllBy g h → g < t → issued_in h t ≡ 0
issued_none h g t by l =
    count_none (λ (d : Done). d.at.issue == t) (IsDoneBy g)
    (λ d k. ne_eqb d.at.issue t (λ (e : d.at.issue ≡ t). absurd (omega (arith, k.issue)))) h by

-- and the next step doesn't wait for the width
no_wait : (n i b g : ℕ) → n ≡ g + 1 → g ≤ b → i ≤ g → n - max (max 1 i) (b + 1) ≡ 0
no_wait n i b g e f l = omega arith

pub drained_looks_empty : DrainedLooksEmpty
drained_looks_empty config h good timed all =
    let by : AllBy (greatest_end h) h = timed_by config h good timed in
    let e : first_issue config h ≡ greatest_end h + 1 = drained_first config h good timed all in
    let z : first_issue config [] ≡ 1 = first_empty config good in
    let issued : issued_now config h ≡ 0 =
    issued_none h (greatest_end h) (first_issue config h) by (omega (arith, e)) in
    let width = no_wait (first_issue config h) (last_issue h) (branch_finish h) (greatest_end h) e all
    (last_issue_by (greatest_end h) h by) in
    let width_empty = no_wait (first_issue config []) 0 0 0 z (omega arith) (omega arith) in (
      idle_alike config 0 [] h good tt timed (omega (arith, z)) (omega (arith, e)) (sym issued)
          (width_empty ∙ sym width),
      e,
    )

pub rest_is_later : RestIsLater
rest_is_later config before rest good all =
    let h = history config before in
    let in_h = are_timed config before good in
    let n = cycles config before in
    let like = drained_looks_empty config h good in_h all in
    let z : first_issue config [] ≡ 1 = first_empty config good in
    let sum = total_is config before in
    let since : first_issue config h ≡ first_issue config [] + n = omega (arith, like.1, z, sum) in
    times_joined config before rest
    ∙ (ap (λ ts. times_in config before ++ ts) (rest_later config 0 n [] h rest rest good tt in_h like.0 since
    (same_steps config 0 [] h rest rest refl (none_alike [] h)))
    ∙ ap (λ ts. times_in config before ++ map (later n) ts) (sym (times_first config rest)))

pub cycles_add_up : CyclesAddUp
cycles_add_up config before rest good all =
    ap total_of (rest_is_later config before rest good all)
    ∙ (total_joined (times_in config before) (map (later (cycles config before)) (times_in config rest))
    ∙ total_later (cycles config before) (times_in config rest))

-- what has no result ends as it finishes
ends_at_once : (config : Configuration) (h : List Done) (s : Step) (at : Times) → step_dest s ≡ None
    → IsTimed config h s at → at.end ≡ at.finish
ends_at_once config h s at none timed = elim (cases_unit s) [
  | inl e ↦ let is : IsAtOnce at = at_once e timed in omega (arith, is.finish, is.end)
  | inr u ↦
      let is : IsOperation config h s u.0 at = operation u.1 timed in
      let f : is_some (step_dest s) ≡ false = rw none refl in
      MatchBool-at_false (IsLeast (can_end config h at.finish) at.end) (at.end ≡ at.finish) f is.end
]

pub branches_drain : BranchesDrain
branches_drain config [] timed all = absurd all
branches_drain config (d ∷ h) timed all =
    let e : d.at.end ≡ d.at.finish = ends_at_once config h d.step d.at all.1 timed.0 in
    let by : greatest_end h ≤ d.at.finish = all.2 in
    rw all.0 (omega arith)
