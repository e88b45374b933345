-- What an issue comes after, if it isn't a station: a full cycle, a branch, or the issue before.
use Rattle.std.proofs.Common.{ℕ, ◌+◌, ◌-◌, ◌<◌, ◌≤◌, ◌≡◌, ◌∙◌, true, false, arith, refl, inl, inr, ◌⊎◌, Bool, count_by}
use Rattle.std.proofs.Common.{List, [], ◌∷◌, ◌==◌}
use Rattle.std.proofs.lemmas.Bool.{cases_Bool, cases_lt, cases_order, lt-ltb, le-ltb, eq-eqb, eqb-true, leb-true}
use Rattle.std.proofs.lemmas.Bool.{and_parts}
use Rattle.tomex_rvexec.specs.Steps.{is_branch}
use Rattle.tomex_config.specs.Configuration.{Configuration, IsWithinLimits}
use Rattle.tomex_timing.specs.declared.times.Done.{Done}
use Rattle.tomex_timing.specs.History.{last_issue, greatest_end}
use Rattle.tomex_timing.specs.Issue.{branch_finish, first_issue, slot_from}
use Rattle.tomex_timing.specs.Laws.{InReach}
use Rattle.tomex_timing.specs.Needs.{waits_of}
use Rattle.tomex_timing.specs.Recurrence.{AreTimed}
use Rattle.tomex_timing.proofs.Accounts.{issue_account}
use Rattle.tomex_timing.proofs.Bound.{issue_low}
use Rattle.tomex_timing.proofs.Charges.{branch_waits, width_waits, station_waits}
use Rattle.tomex_timing.proofs.Orders.{reach, start_after}
use Rattle.tomex_timing.proofs.Splits.{issue_split, slot_range}
use Rattle.tomex_timing.proofs.Width.{issue_from}
use Rattle.tomex_path.specs.declared.event.Event.{Event}
use Rattle.tomex_path.specs.declared.event.Event.TheVariants.{Issue}
use Rattle.tomex_path.specs.declared.event.Holder.TheVariants.{Branch, FirstIssue}
use Rattle.tomex_path.specs.Holds.{passes}
use Rattle.tomex_path.proofs.Cases.{IssueCase, IssuesFirst, IssuesInTurn}
use Rattle.tomex_path.proofs.Chain.{first_at, holder_at}

module _ (config : Configuration) (good : IsWithinLimits config) where
  pub issued : (d : Done) (older : List Done) → AreTimed config (d ∷ older) → last_issue older ≤ d.at.issue
  issued d older timed = issue_from config older d.step d.at.issue timed.0.issue.0

  -- no step issues before cycle 1
  none_at_zero : (p : List Done → Done → Bool) (e : Event) (h : List Done) → AreTimed config h → last_issue h ≡ 0
      → first_at p e h ≡ 0
  none_at_zero p e [] timed z = refl
  none_at_zero p e (d ∷ older) timed z =
      let low = issue_low config older d.step d.at.issue timed.0.issue.0 in
      absurd (omega arith)

  first_issues : (h : List Done) (t : ℕ) → AreTimed config h → last_issue h ≡ t → 0 < t
      → holder_at (FirstIssue t) h ≡ t
  first_issues [] t timed e l = absurd (omega arith)
  first_issues (d ∷ older) t timed e l = elim (cases_lt (last_issue older) t) [
    | inl below ↦ rw (eq-eqb d.at.issue t e, lt-ltb (last_issue older) t below) e
    | inr above ↦
        let k : last_issue older ≤ d.at.issue = issued d older timed in
        rw (eq-eqb d.at.issue t e, le-ltb (last_issue older) t above)
        (first_issues older t timed.1 (omega arith) l)
  ]

  pub from_low : (d : Done) (older : List Done) → AreTimed config (d ∷ older) → first_issue config older ≤ d.at.issue
  from_low d older timed = leb-true (first_issue config older) d.at.issue
      (issue_split config older d.at.issue good timed.1 ∙ (and_parts _ _ timed.0.issue.0).0)

  -- the youngest branch finishes last
  youngest_branch : (h : List Done) → AreTimed config h → holder_at Branch h ≡ branch_finish h
  youngest_branch [] timed = refl
  youngest_branch (d ∷ older) timed = elim (cases_Bool (is_branch d.step)) [
    | inl e ↦
        let low : first_issue config older ≤ d.at.issue = from_low d older timed in
        let start : d.at.issue ≤ d.at.start = start_after config older d.step d.at timed.0 in
        let within : InReach (greatest_end older) d.at = reach config d older good timed in
        rw e (omega (arith, within.order))
    | inr e ↦ rw e (youngest_branch older timed.1)
  ]

  turn_case : (d : Done) (older : List Done) → AreTimed config (d ∷ older)
      → (waits_of config older d).station ≡ 0 → (waits_of config older d).width ≡ 0
      → (waits_of config older d).branch ≡ 0
      → IssuesInTurn config d older ⊎ IssuesFirst config d older
  turn_case d older timed s w b =
      let low : 0 < d.at.issue = issue_low config older d.step d.at.issue timed.0.issue.0 in
      let order : last_issue older ≤ d.at.issue = issued d older timed in
      let account = issue_account config older d in
      elim (cases_Bool (last_issue older == d.at.issue)) [
        | inl e ↦
            let same : last_issue older ≡ d.at.issue = eqb-true (last_issue older) d.at.issue e in
            let f : holder_at (FirstIssue d.at.issue) older ≡ d.at.issue =
            first_issues older d.at.issue timed.1 same low in
            inl (record { is = rw (s, w, b, e) refl; before = f; last = same })
        | inr e ↦ elim (cases_order (last_issue older) d.at.issue) [
          | inl same ↦ let f : true ≡ false = rw (eq-eqb (last_issue older) d.at.issue same) at e in absurd (cc)
          | inr (inl below) ↦
              let z : holder_at (FirstIssue d.at.issue) older ≡ 0 =
              none_at_zero (passes (FirstIssue d.at.issue)) Issue older timed.1 (omega arith) in
              inr (record { is = rw (s, w, b, e) refl; before = omega arith; first = omega arith })
          | inr (inr above) ↦ absurd (omega arith)
        ]
      ]

  -- a cycle with room for no more has as many issues as the width
  slot_full : (older : List Done) → slot_from config older ≡ last_issue older + 1
      → config.width ≤ count_by (λ x. x.at.issue == last_issue older) older
  slot_full older later = elim (cases_lt (count_by (λ x. x.at.issue == last_issue older) older) config.width) [
    | inl l ↦
        let f : last_issue older ≡ last_issue older + 1 =
        rw (lt-ltb (count_by (λ x. x.at.issue == last_issue older) older) config.width l) at later in
        absurd (omega arith)
    | inr l ↦ l
  ]

  -- if it doesn't wait for a station
  pub issue_case : (d : Done) (older : List Done) → AreTimed config (d ∷ older)
      → (waits_of config older d).station ≡ 0 → IssueCase config d older
  issue_case d older timed s =
      let low = from_low d older timed in
      let slot = slot_range config older in
      let sw = station_waits config older d good timed.1 low in
      let ww = width_waits config older d good timed.1 low in
      let bw = branch_waits config older d low in
      elim (cases_lt 0 (waits_of config older d).width) [
        | inl wide ↦
            let later : slot_from config older ≡ last_issue older + 1 = omega arith in
            let last : last_issue older ≡ d.at.issue - 1 = omega arith in
            let f : holder_at (FirstIssue (d.at.issue - 1)) older ≡ d.at.issue - 1 =
            first_issues older (d.at.issue - 1) timed.1 last (omega arith) in
            inr (inl (record {
              waits = wide;
              is = rw (s, lt-ltb 0 (waits_of config older d).width wide) refl;
              before = omega arith;
              last = last;
              full = rw last at (slot_full older later);
            }))
        | inr narrow ↦ elim (cases_lt 0 (waits_of config older d).branch) [
          | inl some ↦
              let f : holder_at Branch older ≡ branch_finish older = youngest_branch older timed.1 in
              inr (inr (inl (record {
                is = rw (
                  s,
                  le-ltb 0 (waits_of config older d).width narrow,
                  lt-ltb 0 (waits_of config older d).branch some,
                ) refl;
                before = omega arith;
              })))
          | inr none ↦ elim (turn_case d older timed s (omega arith) (omega arith)) [
            | inl c ↦ inr (inr (inr (inl c)))
            | inr c ↦ inr (inr (inr (inr c)))
          ]
        ]
      ]
