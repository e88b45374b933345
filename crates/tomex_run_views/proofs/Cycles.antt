-- The cycles of steps are those in which they wait to issue; with the drain they are the run's total.
use Rattle.std.proofs.Common.{ℕ, ◌+◌, ◌-◌, ◌==◌, ◌≡◌, ◌∙◌, arith, refl, ap, ap₂, sym, Bool, true, false, cond}
use Rattle.std.proofs.Common.{List, [], ◌∷◌, length}
use Rattle.std.specs.Prelude.{sum_by}
use Rattle.std.proofs.lemmas.List.Sums.{sum_by-cons}
use Rattle.tomex_rvexec.specs.declared.step.Step.{Step}
use Rattle.tomex_config.specs.Configuration.{Configuration, IsWithinLimits}
use Rattle.tomex_timing.specs.History.{last_issue}
use Rattle.tomex_timing.specs.Needs.{waits_in, waits_of}
use Rattle.tomex_timing.specs.Recurrence.{AreTimed}
use Rattle.tomex_timing.specs.Search.{history}
use Rattle.tomex_timing.specs.declared.need.Waits.{Waits}
use Rattle.tomex_timing.specs.declared.times.Done.{Done}
use Rattle.tomex_timing.specs.declared.times.Times.{Times}
use Rattle.tomex_timing.proofs.Histories.{total_is}
use Rattle.tomex_timing.proofs.Search.{times_are}
use Rattle.tomex_timing.proofs.WaitLists.{length-waits_in}
use Rattle.tomex_run_views.specs.ByPlace.{Visit, cycles_of, visits_after, visits_in, visits_of}
use Rattle.tomex_run_views.specs.Laws.{CyclesAddUp, CyclesAreWaits, first_of}
use Rattle.tomex_run_views.specs.Tally.{cycles_by, visits_by}
use Rattle.tomex_run_views.proofs.Gaps.{done, gap_is, history_all, history_from, issue_below, times_all}
use Rattle.tomex_run_views.proofs.Gaps.{times_from, visits_are, waits_all, waits_from}

abbrev issue_waits : List Visit → ℕ
issue_waits visits =
    sum_by (λ v. v.waits.branch) visits + sum_by (λ v. v.waits.width) visits + sum_by (λ v. v.waits.station) visits

one_more : (v : Visit) (vs : List Visit) (more : ℕ) → v.cycles ≡ cycles_by more v.waits
    → cycles_of vs ≡ issue_waits vs → cycles_of (v ∷ vs) ≡ issue_waits (v ∷ vs) + more
one_more v vs more is rest = omega (
  arith,
  is,
  rest,
  sum_by-cons (λ v. v.cycles) v vs,
  sum_by-cons (λ v. v.waits.branch) v vs,
  sum_by-cons (λ v. v.waits.width) v vs,
  sum_by-cons (λ v. v.waits.station) v vs,
)

later : (key : Step → ℕ) (k : ℕ) (ss : List Step) (ws : List Waits)
    → cycles_of (visits_of key k (visits_by 0 ss ws)) ≡ issue_waits (visits_of key k (visits_by 0 ss ws))
later key k [] ws = refl
later key k (s ∷ ss) [] = refl
later key k (s ∷ ss) (w ∷ ws) = go (later key k ss ws) (key s == k) refl
  where
    v : Visit
    v = record { step = s; cycles = cycles_by 0 w; waits = w }

    go : cycles_of (visits_of key k (visits_by 0 ss ws)) ≡ issue_waits (visits_of key k (visits_by 0 ss ws))
        → (b : Bool) → (key s == k) ≡ b
        → cycles_of (visits_of key k (v ∷ visits_by 0 ss ws)) ≡ issue_waits (visits_of key k (v ∷ visits_by 0 ss ws))
    go rest true e = rw e (omega (arith, one_more v (visits_of key k (visits_by 0 ss ws)) 0 refl rest))
    go rest false e = rw e rest

all : (key : Step → ℕ) (k : ℕ) (ss : List Step) (ws : List Waits) → length ws ≡ length ss
    → cycles_of (visits_of key k (visits_by 1 ss ws))
    ≡ issue_waits (visits_of key k (visits_by 1 ss ws)) + first_of key k ss
all key k [] ws pairs = refl
all key k (s ∷ ss) [] pairs = absurd (cc)
all key k (s ∷ ss) (w ∷ ws) pairs = go (key s == k) refl
  where
    v : Visit
    v = record { step = s; cycles = cycles_by 1 w; waits = w }

    go : (b : Bool) → (key s == k) ≡ b
        → cycles_of (visits_of key k (v ∷ visits_by 0 ss ws))
        ≡ issue_waits (visits_of key k (v ∷ visits_by 0 ss ws)) + cond (key s == k) 1 0
    go true e = rw e (one_more v (visits_of key k (visits_by 0 ss ws)) 1 refl (later key k ss ws))
    go false e = rw e (omega (arith, later key k ss ws))

pub cycles_are_waits : CyclesAreWaits
cycles_are_waits config steps key k good =
    rw (sym (visits_are config steps good)) (all key k steps (waits_in config steps) (length-waits_in config steps))

-- the steps after a history issue, each its cycles after the one before it
issued : (config : Configuration) (h : List Done) (ss : List Step) → IsWithinLimits config → AreTimed config h
    → cycles_of (visits_after (last_issue h) ss (times_from config h ss) (waits_from config h ss)) + last_issue h
    ≡ last_issue (history_from config h ss)
issued config h [] good timed = omega arith
issued config h (s ∷ ss) good timed =
    let d = done config h s in
    let next : AreTimed config (d ∷ h) = (times_are config h s good timed, timed) in
    let gap = gap_is config d h good next in
    let rest = issued config (d ∷ h) ss good next in
    let v : Visit = record { step = s; cycles = d.at.issue - last_issue h; waits = waits_of config h d } in
    omega (
      arith,
      gap,
      rest,
      sum_by-cons (λ v. v.cycles) v
          (visits_after d.at.issue ss (times_from config (d ∷ h) ss) (waits_from config (d ∷ h) ss)),
    )

pub cycles_are_issues : (config : Configuration) (steps : List Step) → IsWithinLimits config
    → cycles_of (visits_in config steps) ≡ last_issue (history config steps)
cycles_are_issues config steps good =
    let k = issued config [] steps good tt in
    ap₂ (λ (ts : List Times) (ws : List Waits). cycles_of (visits_after 0 steps ts ws)) (times_all config steps)
    (waits_all config steps)
    ∙ (omega (arith, k) ∙ ap last_issue (sym (history_all config steps)))

pub cycles_with_drain : CyclesAddUp
cycles_with_drain config steps good =
    let low = issue_below config steps good in
    omega (arith, cycles_are_issues config steps good, low.0, total_is config steps)
