-- The note of a step is that of its turn in the evaluation, and has the wait for what holds each of its events.
use Rattle.std.proofs.Common.{ℕ, ◌+◌, ◌≡◌, ◌∙◌, refl, inl, inr, subst, sym, take, List, Option, Some, None}
use Rattle.std.specs.Prelude.{◌==◌, nat_lt, if◌then◌else◌}
use Rattle.std.proofs.lemmas.Bool.{cases_Bool}
use Rattle.tomex_rvdec.specs.declared.pool.UnitId.{UnitId}
use Rattle.tomex_rvexec.specs.Steps.{j_of, k_of, step_unit}
use Rattle.tomex_rvexec.specs.declared.step.Step.{Step}
use Rattle.tomex_config.specs.Configuration.{Configuration}
use Rattle.tomex_timing.specs.declared.next.Next.{Next}
use Rattle.tomex_timing.specs.declared.need.Waits.{Waits}
use Rattle.tomex_timing.specs.declared.recent.Facts.{Facts}
use Rattle.tomex_timing.specs.declared.tables.Tag.{Tag}
use Rattle.tomex_timing.specs.declared.times.Done.{Done}
use Rattle.tomex_timing.specs.Ahead.{Held, end_in}
use Rattle.tomex_timing.specs.History.{cycle_of, source_end}
use Rattle.tomex_timing.specs.Needs.{waits_of}
use Rattle.tomex_timing.specs.Recent.{AreInRange, facts_of}
use Rattle.tomex_timing.specs.Search.{history}
use Rattle.tomex_timing.specs.Tables.{tag_of}
use Rattle.tomex_timing.specs.Waiting.{waits_by}
use Rattle.tomex_timing.proofs.Summary.{source_agree}
use Rattle.tomex_timing.proofs.Turns.{IsTurn, same_times, turn_waits}
use Rattle.tomex_path.specs.declared.event.Event.{Event}
use Rattle.tomex_path.specs.declared.event.Event.TheVariants as events
use Rattle.tomex_path.specs.declared.hold.Hold.{Hold}
use Rattle.tomex_path.specs.declared.note.IssueWait.{IssueWait}
use Rattle.tomex_path.specs.declared.note.IssueWait.TheVariants as issues
use Rattle.tomex_path.specs.declared.note.Seen.{Seen}
use Rattle.tomex_path.specs.declared.note.StartWait.{StartWait}
use Rattle.tomex_path.specs.declared.note.StartWait.TheVariants as starts
use Rattle.tomex_path.specs.Holds.{hold_address, hold_end, hold_issue, hold_of, hold_start, hold_station, hold_unit}
use Rattle.tomex_path.specs.Path.{waited}
use Rattle.tomex_path.specs.Seen.{bus_wait, done_at, issue_wait, note_from, note_of, noted_wait, operand_wait, seen_of}
use Rattle.tomex_path.specs.Seen.{start_wait}
use Rattle.tomex_path.proofs.HoldSteps.{by_issue_wait, by_start_wait, issue_held, issue_lasts, start_held, start_lasts}

-- the note that is made of a step as it comes next is its note
pub noted_turn : {config : Configuration} {steps : List Step} {i : ℕ} {x : Step} {f : Facts} {held : Held}
    {next : Next} {waits : Waits} → IsTurn config steps i x f held next
    → waits ≡ waits_by held.latest next.marks next.at
    → note_from held.latest.end (end_in held.latest.ends f.j) (end_in held.latest.ends f.k) next.at waits
    ≡ note_of config (history config (take i steps)) (done_at config steps i x)
noted_turn {config} {steps} {i} {x} {f} {held} {next} {waits} turn waited =
    let h = history config (take i steps) in
    let kept = turn.shown.kept in
    let range : AreInRange (facts_of x) = rw turn.step.facts at turn.step.range in
    let j : end_in held.latest.ends f.j ≡ source_end (history config (take i steps)) (j_of x) =
    rw turn.step.facts (source_agree h held.latest.ends (j_of x) kept.ends range.j) in
    let k : end_in held.latest.ends f.k ≡ source_end (history config (take i steps)) (k_of x) =
    rw turn.step.facts (source_agree h held.latest.ends (k_of x) kept.ends range.k) in
    rw (kept.end, j, k, turn_waits turn waited, same_times turn)
    (refl {a = note_of config (history config (take i steps)) (done_at config steps i x)})

-- what is seen of a step is of these waits
record IsSeenOf (older : List Done) (d : Done) (w : Waits) (s : Seen) : Type 0 where
  issue : s.note.issue_cycles ≡ (issue_wait w).1
  start : s.note.start_cycles ≡ (start_wait w).1
  which : s.note.start ≡ (start_wait w).0
  address : s.note.address_cycles
      ≡ (if source_end older (j_of d.step) + 1 == cycle_of d.at.address then w.operand else w.address)
  bus : bus_wait s.at ≡ w.bus

module _ (older : List Done) (d : Done) (w : Waits) (s : Seen) (is : IsSeenOf older d w s) where
  -- the note has the wait for what holds an event
  abbrev IsNoted : Hold → Type 0
  IsNoted k = noted_wait s k.reason ≡ waited w k.reason

  station_noted : (tag : Option Tag) → issues.Station ≡ (issue_wait w).0 → IsNoted (hold_station older d tag)
  station_noted None e = refl
  station_noted (Some tag) e = is.issue ∙ issue_lasts older d w e

  issue_by : (k : IssueWait) → k ≡ (issue_wait w).0 → IsNoted (issue_held older d w k)
  issue_by issues.Station e = station_noted (tag_of d) e
  issue_by issues.Width e = is.issue ∙ issue_lasts older d w e
  issue_by issues.Branch e = is.issue ∙ issue_lasts older d w e
  issue_by issues.Nothing e = refl

  issue_noted : IsNoted (hold_issue older d w)
  issue_noted = subst IsNoted (by_issue_wait older d w refl) (issue_by (issue_wait w).0 refl)

  operand_noted : (k : StartWait) → k ≡ (start_wait w).0 → s.note.address_cycles ≡ w.operand
      → operand_wait k s.note ≡ w.operand
  operand_noted starts.Operand e base = is.start ∙ start_lasts older d w e
  operand_noted starts.Unit e base = base
  operand_noted starts.Memory e base = base
  operand_noted starts.Address e base = base
  operand_noted starts.Nothing e base = base

  address_noted : IsNoted (hold_address older d w)
  address_noted = elim (cases_Bool (d.at.issue + 1 == cycle_of d.at.address)) [
    | inl a ↦ rw a issue_noted
    | inr a ↦ elim (cases_Bool (source_end older (j_of d.step) + 1 == cycle_of d.at.address)) [
      | inl b ↦ rw (a, b) (operand_noted s.note.start is.which (is.address ∙ rw b refl))
      | inr b ↦ rw (a, b) (is.address ∙ rw b refl)
    ]
  ]

  unit_noted : (unit : Option UnitId) → starts.Unit ≡ (start_wait w).0 → IsNoted (hold_unit older d w unit)
  unit_noted None e = issue_noted
  unit_noted (Some unit) e = is.start ∙ start_lasts older d w e

  start_by : (k : StartWait) → k ≡ (start_wait w).0 → IsNoted (start_held older d w k)
  start_by starts.Unit e = unit_noted (step_unit d.step) e
  start_by starts.Memory e = is.start ∙ start_lasts older d w e
  start_by starts.Address e = address_noted
  start_by starts.Operand e = rw (is.which ∙ sym e) (is.start ∙ start_lasts older d w e)
  start_by starts.Nothing e = issue_noted

  start_noted : IsNoted (hold_start older d w)
  start_noted = subst IsNoted (by_start_wait older d w refl) (start_by (start_wait w).0 refl)

  end_noted : IsNoted (hold_end older d w)
  end_noted = elim (cases_Bool (nat_lt 0 w.bus)) [ inl a ↦ rw a is.bus | inr a ↦ rw a start_noted ]

  event_noted : (e : Event) → IsNoted (hold_of e older d w)
  event_noted events.Issue = issue_noted
  event_noted events.Address = address_noted
  event_noted events.Start = start_noted
  event_noted events.Finish = start_noted
  event_noted events.End = end_noted

-- so has what is seen of a step of a run
pub wait_is : (config : Configuration) (older : List Done) (d : Done) (e : Event) (k : Hold)
    → k ≡ hold_of e older d (waits_of config older d)
    → noted_wait (seen_of config older d) k.reason ≡ waited (waits_of config older d) k.reason
wait_is config older d e k is =
    subst (λ (l : Hold). noted_wait (seen_of config older d) l.reason ≡ waited (waits_of config older d) l.reason)
    (sym is)
    (event_noted older d (waits_of config older d) (seen_of config older d)
    (record { issue = refl; start = refl; which = refl; address = refl; bus = refl }) e)
