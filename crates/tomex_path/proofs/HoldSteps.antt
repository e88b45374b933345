-- What holds an event, by the last of the step's waits, and how long that was.
use Rattle.std.proofs.Common.{ℕ, ◌+◌, ◌-◌, ◌≤◌, ◌≡◌, ◌∙◌, ap, refl, inl, inr, sym, List, None}
use Rattle.std.specs.Prelude.{nat_lt}
use Rattle.std.proofs.lemmas.Bool.{cases_Bool, eq-eqb, le-ltb}
use Rattle.tomex_rvexec.specs.Steps.{j_of, k_of, step_unit}
use Rattle.tomex_config.specs.declared.part.Part.TheVariants.{Width}
use Rattle.tomex_timing.specs.declared.need.Waits.{Waits}
use Rattle.tomex_timing.specs.declared.times.Done.{Done}
use Rattle.tomex_timing.specs.History.{cycle_of}
use Rattle.tomex_timing.specs.Tables.{tag_of}
use Rattle.tomex_path.specs.declared.event.Holder.TheVariants as holders
use Rattle.tomex_path.specs.declared.hold.Hold.{Hold}
use Rattle.tomex_path.specs.declared.note.IssueWait.{IssueWait}
use Rattle.tomex_path.specs.declared.note.IssueWait.TheVariants as issues
use Rattle.tomex_path.specs.declared.note.StartWait.{StartWait}
use Rattle.tomex_path.specs.declared.note.StartWait.TheVariants as starts
use Rattle.tomex_path.specs.declared.reason.Reason.TheVariants as reasons
use Rattle.tomex_path.specs.Holds.{access_of, held, hold_address, hold_end, hold_issue, hold_start, hold_station}
use Rattle.tomex_path.specs.Holds.{hold_turn, hold_unit, just_ended}
use Rattle.tomex_path.specs.Seen.{issue_wait, start_wait}

module _ (older : List Done) (d : Done) (w : Waits) where
  -- what holds the issue of a step with this last wait before it, and how long that is
  abbrev pub issue_held : IssueWait → Hold
  issue_held issues.Station = hold_station older d (tag_of d)
  issue_held issues.Width = held (reasons.For Width) d.at.issue (holders.FirstIssue (d.at.issue - 1))
  issue_held issues.Branch = held reasons.Branch d.at.issue holders.Branch
  issue_held issues.Nothing = hold_turn older d

  abbrev pub issue_cycles : IssueWait → ℕ
  issue_cycles issues.Station = w.station
  issue_cycles issues.Width = w.width
  issue_cycles issues.Branch = w.branch
  issue_cycles issues.Nothing = 0

  -- and of the start
  abbrev pub start_held : StartWait → Hold
  start_held starts.Unit = hold_unit older d w (step_unit d.step)
  start_held starts.Memory = held reasons.Memory d.at.start (holders.Conflict (access_of d) (d.at.start - 1))
  start_held starts.Address = hold_address older d w
  start_held starts.Operand =
      held reasons.Operand d.at.start
      (holders.Writer (just_ended older (j_of d.step) d.at.start) (just_ended older (k_of d.step) d.at.start))
  start_held starts.Nothing = hold_issue older d w

  abbrev pub start_cycles : StartWait → ℕ
  start_cycles starts.Unit = w.unit
  start_cycles starts.Memory = w.memory
  start_cycles starts.Address = w.address
  start_cycles starts.Operand = w.operand
  start_cycles starts.Nothing = 0

  issue_is : (hold_issue older d w ≡ issue_held (issue_wait w).0) × ((issue_wait w).1 ≡ issue_cycles (issue_wait w).0)
  issue_is = elim (cases_Bool (nat_lt 0 w.station)) [
    | inl a ↦ rw a (refl, refl)
    | inr a ↦ elim (cases_Bool (nat_lt 0 w.width)) [
      | inl b ↦ rw (a, b) (refl, refl)
      | inr b ↦ elim (cases_Bool (nat_lt 0 w.branch)) [
        | inl c ↦ rw (a, b, c) (refl, refl)
        | inr c ↦ rw (a, b, c) (refl, refl)
      ]
    ]
  ]

  start_is : (hold_start older d w ≡ start_held (start_wait w).0) × ((start_wait w).1 ≡ start_cycles (start_wait w).0)
  start_is = elim (cases_Bool (nat_lt 0 w.unit)) [
    | inl a ↦ rw a (refl, refl)
    | inr a ↦ elim (cases_Bool (nat_lt 0 w.memory)) [
      | inl b ↦ rw (a, b) (refl, refl)
      | inr b ↦ elim (cases_Bool (nat_lt 0 w.address)) [
        | inl c ↦ rw (a, b, c) (refl, refl)
        | inr c ↦ elim (cases_Bool (nat_lt 0 w.operand)) [
          | inl e ↦ rw (a, b, c, e) (refl, refl)
          | inr e ↦ rw (a, b, c, e) (refl, refl)
        ]
      ]
    ]
  ]

  pub by_issue_wait : {k : IssueWait} → k ≡ (issue_wait w).0 → issue_held k ≡ hold_issue older d w
  by_issue_wait e = ap issue_held e ∙ sym issue_is.0

  pub issue_lasts : {k : IssueWait} → k ≡ (issue_wait w).0 → (issue_wait w).1 ≡ issue_cycles k
  issue_lasts e = issue_is.1 ∙ ap issue_cycles (sym e)

  pub by_start_wait : {k : StartWait} → k ≡ (start_wait w).0 → start_held k ≡ hold_start older d w
  by_start_wait e = ap start_held e ∙ sym start_is.0

  pub start_lasts : {k : StartWait} → k ≡ (start_wait w).0 → (start_wait w).1 ≡ start_cycles k
  start_lasts e = start_is.1 ∙ ap start_cycles (sym e)

  pub by_issue : d.at.issue + 1 ≡ cycle_of d.at.address → hold_address older d w ≡ hold_issue older d w
  by_issue e = rw (eq-eqb (d.at.issue + 1) (cycle_of d.at.address) e) refl

  pub no_unit : step_unit d.step ≡ None → hold_unit older d w (step_unit d.step) ≡ hold_issue older d w
  no_unit e = rw e refl

  pub no_bus : w.bus ≤ 0 → hold_end older d w ≡ hold_start older d w
  no_bus l = rw (le-ltb 0 w.bus l) refl
