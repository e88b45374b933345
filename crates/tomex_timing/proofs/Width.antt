-- Issues by the width: in order, and no more of them in a cycle. With a width of one an issue is later
-- than the one before, and that is all that the width asks.
use Rattle.std.proofs.Common.{ℕ, ◌<◌, ◌≤◌, ◌≡◌, ◌∙◌, true, false, arith, refl, List, [], ◌∷◌, ap, inl, inr, sym}
use Rattle.std.specs.Prelude.{nat_lt, nat_le, ◌==◌, ◌&&◌, count_by}
use Rattle.std.proofs.lemmas.Bool.{cases_Bool, cases_order, lt-ltb, le-ltb, le-leb, lt-leb, ltb-true, eq-eqb}
use Rattle.std.proofs.lemmas.Bool.{ne_eqb, and_parts, and_right}
use Rattle.std.proofs.lemmas.List.Sums.{sum_by-cons}
use Rattle.tomex_rvexec.specs.Steps.{step_pool}
use Rattle.tomex_rvexec.specs.declared.step.Step.{Step}
use Rattle.tomex_config.specs.Configuration.{Configuration}
use Rattle.tomex_timing.specs.declared.times.Done.{Done}
use Rattle.tomex_timing.specs.History.{last_issue}
use Rattle.tomex_timing.specs.Station.{has_station}
use Rattle.tomex_timing.specs.Recurrence.{AreTimed, can_issue, are_branches_finished}
use Rattle.tomex_timing.proofs.Tests.{can_issue_is}
use Rattle.tomex_timing.specs.Laws.{IssuesAlone, IssuesFitTheWidth, IssuesRise, IssuesStandInOrder}

pub issue_from : (config : Configuration) (older : List Done) (s : Step) (t : ℕ) → can_issue config older s t ≡ true
    → last_issue older ≤ t
issue_from config older s t h = (can_issue_is config older s t h).in_order

pub issues_in_order : IssuesStandInOrder
issues_in_order config d older timed = issue_from config older d.step d.at.issue timed.0.issue.0

pub issues_fit : IssuesFitTheWidth
issues_fit config [] t timed = omega arith
issues_fit config (d ∷ h) t timed =
    let rest : count_by (λ d. d.at.issue == t) h ≤ config.width = issues_fit config h t timed.1 in
    elim (cases_order d.at.issue t) [
      | inl e ↦
          let left : count_by (λ d. d.at.issue == t) h < config.width =
          (can_issue_is config h d.step t (ap (can_issue config h d.step) (sym e) ∙ timed.0.issue.0)).slot_left in
          rw (sum_by-cons, eq-eqb d.at.issue t e) (omega arith)
      | inr (inl l) ↦ rw (sum_by-cons, ne_eqb d.at.issue t (λ (e : d.at.issue ≡ t). absurd (omega arith))) (omega arith)
      | inr (inr l) ↦ rw (sum_by-cons, ne_eqb d.at.issue t (λ (e : d.at.issue ≡ t). absurd (omega arith))) (omega arith)
    ]

-- what issued by some cycle doesn't issue later
pub none_later : (config : Configuration) (h : List Done) (t : ℕ) → AreTimed config h → last_issue h < t
    → count_by (λ d. d.at.issue == t) h ≡ 0
none_later config [] t timed l = refl
none_later config (d ∷ h) t timed l =
    let k : last_issue h ≤ d.at.issue = issue_from config h d.step d.at.issue timed.0.issue.0 in
    rw (
      sum_by-cons,
      ne_eqb d.at.issue t (λ (e : d.at.issue ≡ t). absurd (omega arith)),
      none_later config h t timed.1 (omega arith),
    ) refl

some_there : (d : Done) (h : List Done) (t : ℕ) → d.at.issue ≡ t → 0 < count_by (λ d. d.at.issue == t) (d ∷ h)
some_there d h t e = rw (sum_by-cons, eq-eqb d.at.issue t e) (omega arith)

slot_alone : (config : Configuration) (h : List Done) (t : ℕ) → AreTimed config h
    → (nat_lt 0 t && (nat_le (last_issue h) t && nat_lt (count_by (λ d. d.at.issue == t) h) 1)) ≡ nat_lt (last_issue h)
    t
slot_alone config [] t timed = elim (cases_Bool (nat_lt 0 t)) [
  | inl e ↦ rw (e, le-leb 0 t (omega arith)) refl
  | inr e ↦ rw e refl
]
slot_alone config (d ∷ h) t timed = elim (cases_order d.at.issue t) [
  | inl e ↦
      let p : 0 < count_by (λ d. d.at.issue == t) (d ∷ h) = some_there d h t e in
      rw (le-ltb (count_by (λ d. d.at.issue == t) (d ∷ h)) 1 (omega arith), le-ltb d.at.issue t (omega arith))
      (and_right _ (_ && false) (and_right _ false refl))
  | inr (inl l) ↦ rw (
    none_later config (d ∷ h) t timed l,
    lt-ltb d.at.issue t l,
    le-leb d.at.issue t (omega arith),
    lt-ltb 0 t (omega arith),
  ) refl
  | inr (inr l) ↦ rw (lt-leb d.at.issue t l, le-ltb d.at.issue t (omega arith)) (and_right _ false refl)
]

pub issues_alone : IssuesAlone
issues_alone config h s t one timed =
    rw one (ap (λ b. b && are_branches_finished h t && has_station config h (step_pool s) t)
    (slot_alone config h t timed))

pub issues_rise : IssuesRise
issues_rise config d h one timed =
    let e = issues_alone config h d.step d.at.issue one timed.1 in
    ltb-true (last_issue h) d.at.issue (and_parts _ _ (and_parts _ _ (sym e ∙ timed.0.issue.0)).0).0
