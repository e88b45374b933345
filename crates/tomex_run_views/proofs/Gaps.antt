-- The cycles from one issue to the next are waits, and so are those from a step's issue to its end.
use Rattle.std.proofs.Common.{ℕ, zero, suc, ◌+◌, ◌-◌, ◌*◌, ◌<◌, ◌≤◌, ◌≡◌, ◌∙◌, arith, refl, ap, ap₂, sym, length, take}
use Rattle.std.proofs.Common.{get_or}
use Rattle.std.proofs.Common.{List, [], ◌∷◌, ◌++◌, append_assoc, Option, Some, None, max}
use Rattle.std.proofs.lemmas.List.{append-nil, take_more}
use Rattle.tomex_rvdec.specs.declared.pool.UnitId.{UnitId}
use Rattle.tomex_rvexec.specs.Steps.{step_unit}
use Rattle.tomex_rvexec.specs.declared.step.Step.{Step}
use Rattle.tomex_config.specs.Configuration.{Configuration, IsWithinLimits}
use Rattle.tomex_timing.specs.History.{greatest_end, last_issue}
use Rattle.tomex_timing.specs.Laws.{work_by}
use Rattle.tomex_timing.specs.Needs.{stalls, stalls_by, waits_in, waits_of}
use Rattle.tomex_timing.specs.Recurrence.{AreTimed}
use Rattle.tomex_timing.specs.Search.{history, times_in, times_of}
use Rattle.tomex_config.specs.declared.part.Part.TheVariants.{Width}
use Rattle.tomex_timing.specs.declared.need.Waits.{Waits}
use Rattle.tomex_timing.specs.declared.times.Done.{Done}
use Rattle.tomex_timing.specs.declared.times.Times.{Times}
use Rattle.tomex_timing.proofs.Accounts.{issue_cycles, kind_stalls, station_cycles, station_stalls}
use Rattle.tomex_timing.proofs.Bound.{in_reach, timed_by}
use Rattle.tomex_timing.proofs.Histories.{are_timed, history_bound, history_more, times_more}
use Rattle.tomex_timing.proofs.Search.{times_are}
use Rattle.tomex_timing.proofs.AfterEnd.{last_issue_by}
use Rattle.tomex_timing.proofs.WaitLists.{waits_more}
use Rattle.tomex_run_views.specs.ByPlace.{Visit, visits_after, visits_in}
use Rattle.tomex_run_views.specs.Drain.{cycles_in_unit, cycles_under_way}
use Rattle.tomex_run_views.specs.Tally.{cycles_by, more_at, visits_by}

-- the one more cycle of a step with no step before it
abbrev pub more_after : List Done → ℕ
more_after [] = 1
more_after (d ∷ h) = 0

issue_waits : Configuration → List Done → ℕ
issue_waits config h =
    stalls_by (λ w. w.branch) config h + stalls_by (λ w. w.width) config h + stalls_by (λ w. w.station) config h

-- up to its last issue a run waits in all cycles except one
issues_are : (config : Configuration) (d : Done) (h : List Done) → IsWithinLimits config → AreTimed config (d ∷ h)
    → issue_waits config (d ∷ h) + 1 ≡ d.at.issue
unfolding issue_waits
issues_are config d h good timed =
    let law = issue_cycles config d h good timed in
    let pools = station_stalls config (d ∷ h) timed in
    let width : stalls_by (λ w. w.width) config (d ∷ h) ≡ stalls config Width (d ∷ h) = refl in
    let low : d.at.issue ≤ greatest_end (d ∷ h) =
    last_issue_by (greatest_end (d ∷ h)) (d ∷ h) (timed_by config (d ∷ h) good timed) in
    omega arith

pub gap_is : (config : Configuration) (d : Done) (h : List Done) → IsWithinLimits config → AreTimed config (d ∷ h)
    → d.at.issue ≡ last_issue h + cycles_by (more_after h) (waits_of config h d)
unfolding issue_waits
gap_is config d [] good timed = let k = issues_are config d [] good timed in omega arith
gap_is config d (e ∷ h) good timed =
    let k = issues_are config d (e ∷ h) good timed in
    let l = issues_are config e h good timed.1 in omega arith

-- and from its issue on a step waits or works
end_in : (config : Configuration) (d : Done) (h : List Done) (unit : Option UnitId) → IsWithinLimits config
    → AreTimed config (d ∷ h) → step_unit d.step ≡ unit
    → d.at.end ≡ d.at.issue + cycles_in_unit config unit d.step (waits_of config h d)
end_in config d h None good timed is = omega (arith, rw is at timed.0.end)
end_in config d h (Some u) good timed is =
    let a = rw is at (station_cycles config (d ∷ h) good timed) in
    let b = station_cycles config h good timed.1 in
    let x = rw is at (kind_stalls config (d ∷ h) timed) in
    let y = kind_stalls config h timed.1 in
    let low : d.at.issue ≤ d.at.end =
    (in_reach config h d.step d.at (greatest_end h) good (timed_by config h good timed.1) timed.0).issue in
    omega arith

pub end_is : (config : Configuration) (d : Done) (h : List Done) → IsWithinLimits config → AreTimed config (d ∷ h)
    → d.at.end ≡ d.at.issue + cycles_under_way config d.step (waits_of config h d)
end_is config d h good timed = end_in config d h (step_unit d.step) good timed refl

-- a history with one step more, and what is younger than it: its times and its waits, in program order

abbrev pub done : Configuration → List Done → Step → Done
done config h s = record { step = s; at = times_of config h s }

abbrev pub times_from : Configuration → List Done → List Step → List Times
times_from config h [] = []
times_from config h (s ∷ ss) = times_of config h s ∷ times_from config (done config h s ∷ h) ss

abbrev pub waits_from : Configuration → List Done → List Step → List Waits
waits_from config h [] = []
waits_from config h (s ∷ ss) = waits_of config h (done config h s) ∷ waits_from config (done config h s ∷ h) ss

abbrev pub history_from : Configuration → List Done → List Step → List Done
history_from config h [] = h
history_from config h (s ∷ ss) = history_from config (done config h s ∷ h) ss

times_split : (config : Configuration) (xs ys : List Step)
    → times_in config (xs ++ ys) ≡ times_in config xs ++ times_from config (history config xs) ys
times_split config xs [] = ap (times_in config) (append-nil xs) ∙ sym (append-nil (times_in config xs))
times_split config xs (y ∷ ys) =
    ap (times_in config) (sym (append_assoc xs (y ∷ []) ys))
    ∙ (times_split config (xs ++ y ∷ []) ys
    ∙ (ap₂ (λ (a : List Times) (h : List Done). a ++ times_from config h ys) (times_more config xs y)
    (history_more config xs y)
    ∙ append_assoc (times_in config xs) (times_of config (history config xs) y ∷ []) _))

waits_split : (config : Configuration) (xs ys : List Step)
    → waits_in config (xs ++ ys) ≡ waits_in config xs ++ waits_from config (history config xs) ys
waits_split config xs [] = ap (waits_in config) (append-nil xs) ∙ sym (append-nil (waits_in config xs))
waits_split config xs (y ∷ ys) =
    ap (waits_in config) (sym (append_assoc xs (y ∷ []) ys))
    ∙ (waits_split config (xs ++ y ∷ []) ys
    ∙ (ap₂ (λ (a : List Waits) (h : List Done). a ++ waits_from config h ys) (waits_more config xs y)
    (history_more config xs y)
    ∙ append_assoc (waits_in config xs) (waits_of config (history config xs) (done config (history config xs) y) ∷ [])
    _))

history_split : (config : Configuration) (xs ys : List Step)
    → history config (xs ++ ys) ≡ history_from config (history config xs) ys
history_split config xs [] = ap (history config) (append-nil xs)
history_split config xs (y ∷ ys) =
    ap (history config) (sym (append_assoc xs (y ∷ []) ys))
    ∙ (history_split config (xs ++ y ∷ []) ys
    ∙ ap (λ (h : List Done). history_from config h ys) (history_more config xs y))

pub times_all : (config : Configuration) (ss : List Step) → times_in config ss ≡ times_from config [] ss
times_all config ss = times_split config [] ss

pub waits_all : (config : Configuration) (ss : List Step) → waits_in config ss ≡ waits_from config [] ss
waits_all config ss = waits_split config [] ss

pub history_all : (config : Configuration) (ss : List Step) → history config ss ≡ history_from config [] ss
history_all config ss = history_split config [] ss

-- the visits by waits only are those of the issues
visits_same : (config : Configuration) (h : List Done) (ss : List Step) → IsWithinLimits config → AreTimed config h
    → visits_by (more_after h) ss (waits_from config h ss)
    ≡ visits_after (last_issue h) ss (times_from config h ss) (waits_from config h ss)
visits_same config h [] good timed = refl
visits_same config h (s ∷ ss) good timed =
    let next : AreTimed config (done config h s ∷ h) = (times_are config h s good timed, timed) in
    let gap = gap_is config (done config h s) h good next in
    let is : cycles_by (more_after h) (waits_of config h (done config h s))
    ≡ (times_of config h s).issue - last_issue h = omega arith in
    ap₂ (λ (n : ℕ) (vs : List Visit). record {
      step = s;
      cycles = n;
      waits = waits_of config h (done config h s);
    } ∷ vs) is (visits_same config (done config h s ∷ h) ss good next)

pub visits_are : (config : Configuration) (ss : List Step) → IsWithinLimits config
    → visits_by 1 ss (waits_in config ss) ≡ visits_in config ss
visits_are config ss good =
    let w = waits_all config ss in
    let t = times_all config ss in
    ap (λ (ws : List Waits). visits_by 1 ss ws) w
    ∙ (visits_same config [] ss good tt
    ∙ ap₂ (λ (ts : List Times) (ws : List Waits). visits_after 0 ss ts ws) (sym t) (sym w))

-- the waits of the step at an index, after those before it
waits_from_at : (config : Configuration) (h : List Done) (ss : List Step) (i : ℕ) (d : Step) (none : Waits)
    → i < length ss
    → get_or (waits_from config h ss) i none
    ≡ waits_of config (history_from config h (take i ss))
    (done config (history_from config h (take i ss)) (get_or ss i d))
waits_from_at config h [] i d none l = absurd (omega arith)
waits_from_at config h (s ∷ ss) zero d none l = refl
waits_from_at config h (s ∷ ss) (suc i) d none l =
    waits_from_at config (done config h s ∷ h) ss i d none (omega arith)

more_of_some : (config : Configuration) (d : Done) (h : List Done) (ss : List Step)
    → more_after (history_from config (d ∷ h) ss) ≡ 0
more_of_some config d h [] = refl
more_of_some config d h (s ∷ ss) = more_of_some config (done config (d ∷ h) s) (d ∷ h) ss

more_there : (config : Configuration) (ss : List Step) (i : ℕ) → i < length ss
    → more_after (history config (take i ss)) ≡ more_at i
more_there config [] i l = absurd (omega arith)
more_there config (s ∷ ss) zero l = refl
more_there config (s ∷ ss) (suc i) l =
    ap more_after (history_all config (s ∷ take i ss)) ∙ more_of_some config (done config [] s) [] (take i ss)

pub waits_there : (config : Configuration) (ss : List Step) (i : ℕ) (s : Step) (w none : Waits) → i < length ss
    → s ≡ get_or ss i s → w ≡ get_or (waits_in config ss) i none
    → w ≡ waits_of config (history config (take i ss)) (done config (history config (take i ss)) s)
waits_there config ss i s w none l step waits =
    let h = history_all config (take i ss) in
    waits ∙ (ap (λ (ws : List Waits). get_or ws i none) (waits_all config ss) ∙ (waits_from_at config [] ss i s none l
    ∙ ap₂ (λ (h : List Done) (x : Step). waits_of config h (done config h x)) (sym h) (sym step)))

pub history_next : (config : Configuration) (ss : List Step) (i : ℕ) (s : Step) → i < length ss → s ≡ get_or ss i s
    → history config (take (i + 1) ss) ≡ done config (history config (take i ss)) s ∷ history config (take i ss)
history_next config ss i s l step =
    ap (history config) (take_more ss i s l ∙ ap (λ (x : Step). take i ss ++ x ∷ []) (sym step))
    ∙ history_more config (take i ss) s

-- one step more: its issue, and the greatest end
pub drain_turn : (config : Configuration) (ss : List Step) (i : ℕ) {s : Step} {w : Waits} (none : Waits)
    {issue end gap work later : ℕ} → IsWithinLimits config → i < length ss → s ≡ get_or ss i s
    → w ≡ get_or (waits_in config ss) i none → issue ≡ last_issue (history config (take i ss))
    → end ≡ greatest_end (history config (take i ss)) → gap ≡ cycles_by (more_at i) w
    → work ≡ cycles_under_way config s w → later ≡ max (issue + gap + work) end
    → (issue + gap ≡ last_issue (history config (take (i + 1) ss)))
    × (later ≡ greatest_end (history config (take (i + 1) ss)))
drain_turn config ss i {s} {w} none {issue} {gap} {work} good l step waits issued ended gap_by work_by max_by =
    let h = history config (take i ss) in
    let timed : AreTimed config (history config (take i ss)) = are_timed config (take i ss) good in
    let next : AreTimed config (done config h s ∷ h) = (times_are config h s good timed, timed) in
    let is = waits_there config ss i s w none l step waits in
    let gap_there : gap ≡ cycles_by (more_after h) (waits_of config h (done config h s)) =
    gap_by ∙ ap₂ (λ (n : ℕ) (x : Waits). cycles_by n x) (sym (more_there config ss i l)) is in
    let work_there : work ≡ cycles_under_way config s (waits_of config h (done config h s)) =
    work_by ∙ ap (λ (x : Waits). cycles_under_way config s x) is in
    let at : issue + gap ≡ (times_of config h s).issue =
    omega (arith, gap_there, issued, gap_is config (done config h s) h good next) in
    let last : issue + gap + work ≡ (times_of config h s).end =
    omega (arith, at, work_there, end_is config (done config h s) h good next) in
    rw (history_next config ss i s l step) (at, omega (arith, last, max_by, ended))

pub issue_below : (config : Configuration) (xs : List Step) → IsWithinLimits config
    → (last_issue (history config xs) ≤ greatest_end (history config xs))
    × (greatest_end (history config xs) ≤ 67 * length xs)
issue_below config xs good = (
  last_issue_by (greatest_end (history config xs)) (history config xs)
      (timed_by config (history config xs) good (are_timed config xs good)),
  history_bound config xs good,
)
