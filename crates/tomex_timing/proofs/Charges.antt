-- What the evaluator counts of a step's waits is what the definition says: before it issues it waits for branches, the
-- width, a station; then for its operands, its address, older accesses, a unit.
use Rattle.std.proofs.Common.{Bool, ℕ, ◌+◌, ◌-◌, ◌<◌, ◌≤◌, ◌≡◌, ◌∙◌, true, arith, refl, ap, sym, inl, inr, List, max}
use Rattle.std.proofs.Common.{Option, Some, None, nat_lt, nat_le, not, ◌&&◌}
use Rattle.std.proofs.lemmas.Bool.{cases_Bool, le-leb, lt-leb, leb-true, leb-false, lt-ltb}
use Rattle.std.proofs.lemmas.Bool.Decides.{same_from_decides}
use Rattle.tomex_config.specs.Configuration.{Configuration, IsWithinLimits}
use Rattle.tomex_timing.specs.declared.need.Waits.{Waits}
use Rattle.tomex_timing.specs.declared.times.Done.{Done}
use Rattle.tomex_timing.specs.History.{last_issue, cycle_of, source_end}
use Rattle.tomex_timing.specs.Issue.{branch_finish, first_after_branches, first_issue, slot_from}
use Rattle.tomex_timing.specs.Needs.{lacks_branch, lacks_width, lacks_station, issue_waits, waits_of, lacks_operand}
use Rattle.tomex_timing.specs.Needs.{lacks_address, lacks_memory, lacks_unit, start_waits}
use Rattle.tomex_timing.specs.Recurrence.{AreTimed, are_branches_finished, has_operands, are_conflicts_finished}
use Rattle.tomex_timing.proofs.Bands.{band, is_in_band, none_of}
use Rattle.tomex_timing.proofs.Splits.{slot_range, max_split, slot_split}
use Rattle.tomex_timing.proofs.Splits.{branch_split, after_split, ready_split}
use Rattle.tomex_rvdec.specs.declared.pool.UnitId.{UnitId}
use Rattle.tomex_rvexec.specs.Steps.{step_unit, j_of, k_of}
use Rattle.tomex_rvexec.specs.declared.step.Step.{Step}
use Rattle.tomex_timing.specs.Ahead.{Held}
use Rattle.tomex_timing.specs.declared.next.Marks.{Marks}
use Rattle.tomex_timing.specs.declared.next.Next.{Next}
use Rattle.tomex_timing.specs.Waiting.{operands_from, waits_by}
use Rattle.tomex_timing.specs.Recent.{ready_from}
use Rattle.tomex_timing.proofs.Bools.{and_but, and_swap, and_true}
use Rattle.tomex_timing.proofs.NextTimed.{ComesNext, HasMarks, Runs, first_issued, from_is, has_marks, start_marked}

abbrev waits_made : (branch width station operand address memory unit bus : ℕ) → Waits
waits_made b w s o a m u n =
    record { branch = b; width = w; station = s; operand = o; address = a; memory = m; unit = u; bus = n }

pub same_waits : (a b : Waits) → a.branch ≡ b.branch → a.width ≡ b.width → a.station ≡ b.station → a.operand ≡ b.operand
    → a.address ≡ b.address → a.memory ≡ b.memory → a.unit ≡ b.unit → a.bus ≡ b.bus → a ≡ b
same_waits a b e1 e2 e3 e4 e5 e6 e7 e8 =
    let e : waits_made a.branch a.width a.station a.operand a.address a.memory a.unit a.bus
    ≡ waits_made b.branch b.width b.station b.operand b.address b.memory b.unit b.bus =
    rw (e1, e2, e3, e4, e5, e6, e7, e8) refl in
    e

-- issue

abbrev pub low_of : List Done → ℕ
low_of h = max 1 (last_issue h)

branches_at : (h : List Done) (t : ℕ) → low_of h ≤ t → are_branches_finished h t ≡ nat_le (branch_finish h + 1) t
branches_at h t l = sym (let p : nat_lt 0 t ≡ true = lt-ltb 0 t (omega arith) in
    branch_split h t ∙ ap (λ b. b && are_branches_finished h t) p)

leb_same : (a b t : ℕ) → (a ≤ t → b ≤ t) → (b ≤ t → a ≤ t) → nat_le a t ≡ nat_le b t
leb_same a b t f g = same_from_decides {P = a ≤ t} (nat_le a t) (nat_le b t) (leb-true a t, le-leb a t)
    (λ e. g (leb-true b t e), λ l. le-leb b t (f l))

pub branch_waits : (config : Configuration) (h : List Done) (d : Done) → first_issue config h ≤ d.at.issue
    → issue_waits h d (lacks_branch h) ≡ first_after_branches h - low_of h
branch_waits config h d l =
    let r = slot_range config h in
    band (lacks_branch h) (low_of h) (first_after_branches h) (low_of h) d.at.issue (omega arith) (omega arith)
    (omega arith) (λ t a b. rw (branches_at h t a, le-leb (low_of h) t a)
    (ap (λ x. not x) (leb_same (branch_finish h + 1) (first_after_branches h) t (λ u. omega arith) (λ u. omega arith))))

pub width_waits : (config : Configuration) (h : List Done) (d : Done) → IsWithinLimits config → AreTimed config h
    → first_issue config h ≤ d.at.issue
    → issue_waits h d (lacks_width config h) ≡ first_issue config h - first_after_branches h
width_waits config h d good timed l =
    let r = slot_range config h in
    band (lacks_width config h) (first_after_branches h) (first_issue config h) (low_of h) d.at.issue (omega arith)
    (omega arith) (omega arith) (λ t a b. at_cycle t a)
  where
    at_cycle : (t : ℕ) → low_of h ≤ t
        → lacks_width config h t ≡ is_in_band (first_after_branches h) (first_issue config h) t
    at_cycle t a = elim (cases_Bool (nat_le (branch_finish h + 1) t)) [
      | inl e ↦
          let k : branch_finish h + 1 ≤ t = leb-true (branch_finish h + 1) t e in
          rw (branches_at h t a, e, le-leb (first_after_branches h) t (omega arith), ← slot_split config h t good timed)
          (ap (λ x. not x)
          (leb_same (slot_from config h) (first_issue config h) t (λ u. omega arith) (λ u. omega arith)))
      | inr e ↦
          let k : t < branch_finish h + 1 = leb-false (branch_finish h + 1) t e in
          rw (branches_at h t a, e, lt-leb (first_after_branches h) t (omega arith)) refl
    ]

pub station_waits : (config : Configuration) (h : List Done) (d : Done) → IsWithinLimits config → AreTimed config h
    → first_issue config h ≤ d.at.issue → issue_waits h d (lacks_station config h) ≡ d.at.issue - first_issue config h
station_waits config h d good timed l =
    let r = slot_range config h in
    band (lacks_station config h) (first_issue config h) d.at.issue (low_of h) d.at.issue (omega arith) (omega arith)
    (omega arith) (λ t a b. at_cycle t a b)
  where
    at_cycle : (t : ℕ) → low_of h ≤ t → t < d.at.issue
        → lacks_station config h t ≡ is_in_band (first_issue config h) d.at.issue t
    at_cycle t a b =
        let m : nat_le (first_issue config h) t ≡ (nat_le (slot_from config h) t && nat_le (branch_finish h + 1) t) =
        max_split (slot_from config h) (branch_finish h + 1) t in
        rw (branches_at h t a, ← slot_split config h t good timed, m, lt-leb d.at.issue t b)
        (and_swap (nat_le (branch_finish h + 1) t) (nat_le (slot_from config h) t) ∙ and_true _)

module _ (h : List Done) (d : Done) where
  -- the first cycles in which the operands are there, the address too, and no older access blocks the step
  abbrev operands_at : ℕ
  operands_at = operands_from d.at.issue (source_end h (j_of d.step)) (source_end h (k_of d.step))

  abbrev ready_at : ℕ
  ready_at = ready_from d.at.issue d.at.address (source_end h (j_of d.step)) (source_end h (k_of d.step))

  operands_split : (t : ℕ) → d.at.issue + 1 ≤ t → has_operands h d.step t ≡ nat_le operands_at t
  operands_split t l =
      let j = source_end h (j_of d.step) in
      let k = source_end h (k_of d.step) in
      let e : operands_at ≡ max (d.at.issue + 1) (max (j + 1) (k + 1)) = omega arith in
      sym (rw (e, max_split, max_split, after_split j t, after_split k t, le-leb (d.at.issue + 1) t l) refl)

  ready_with : (t : ℕ) → d.at.issue + 1 ≤ t
      → (has_operands h d.step t && nat_lt (cycle_of d.at.address) t) ≡ nat_le ready_at t
  ready_with t l = sym (ready_split d.at.issue (cycle_of d.at.address) (source_end h (j_of d.step))
      (source_end h (k_of d.step)) t ∙ rw (lt-ltb d.at.issue t (omega arith))
      (and_swap (nat_lt (cycle_of d.at.address) t) (has_operands h d.step t)))

  -- the first cycle c without a conflict, from r on
  abbrev IsClear : ℕ → Type 0
  IsClear c = (t : ℕ) → nat_le c t ≡ (nat_le ready_at t && are_conflicts_finished h d.step t)

  operand_waits : operands_at ≤ d.at.start → start_waits d (lacks_operand h d) ≡ operands_at - (d.at.issue + 1)
  operand_waits l =
      band (lacks_operand h d) (d.at.issue + 1) operands_at (d.at.issue + 1) d.at.start (omega arith) (omega arith)
      l (λ t a b. rw (operands_split t a, le-leb (d.at.issue + 1) t a) refl)

  address_waits : ready_at ≤ d.at.start → start_waits d (lacks_address h d) ≡ ready_at - operands_at
  address_waits l =
      band (lacks_address h d) operands_at ready_at (d.at.issue + 1) d.at.start (omega arith) (omega arith) l
      (λ t a b. rw (← ready_with t a, ← operands_split t a)
      (and_but (has_operands h d.step t) (nat_lt (cycle_of d.at.address) t)))

  memory_waits : (c : ℕ) → IsClear c → ready_at ≤ c → c ≤ d.at.start → start_waits d (lacks_memory h d) ≡ c - ready_at
  memory_waits c clear r l =
      band (lacks_memory h d) ready_at c (d.at.issue + 1) d.at.start (omega arith) r l
      (λ t a b. rw (clear t, ← ready_with t a)
      (and_but (has_operands h d.step t && nat_lt (cycle_of d.at.address) t) (are_conflicts_finished h d.step t)))

  unit_waits : (c : ℕ) → IsClear c → ready_at ≤ c → c ≤ d.at.start → start_waits d (lacks_unit h d) ≡ d.at.start - c
  unit_waits c clear r l =
      band (lacks_unit h d) c d.at.start (d.at.issue + 1) d.at.start (omega arith) l (omega arith)
      (λ t a b. rw (clear t, ← ready_with t a, lt-leb d.at.start t b)
      (and_true ((has_operands h d.step t && nat_lt (cycle_of d.at.address) t) && are_conflicts_finished h d.step t)))

  -- the waits between the marks
  abbrev waits_at : Marks → Waits
  waits_at marks = record {
    branch = first_after_branches h - low_of h;
    width = marks.from - first_after_branches h;
    station = d.at.issue - marks.from;
    operand = marks.operands - d.at.issue - 1;
    address = marks.ready - marks.operands;
    memory = marks.clear - marks.ready;
    unit = d.at.start - marks.clear;
    bus = d.at.end - d.at.finish - 1;
  }

module _ {config : Configuration} {h : List Done} {held : Held} {s : Step} {next : Next}
    (c : ComesNext config h held s next) where
  waits_unit : (unit : Option UnitId) → Runs c unit → first_issue config h ≤ next.at.issue
      → waits_at h (record { step = s; at = next.at }) next.marks
      ≡ waits_of config h (record { step = s; at = next.at })
  waits_unit None run l =
      let d : Done = record { step = s; at = next.at } in
      let none = λ (p : ℕ → Bool). none_of p (next.at.issue + 1) next.at.start (omega (arith, run.start)) in
      same_waits _ _ (sym (branch_waits config h d l))
      (rw (from_is c) (sym (width_waits config h d c.good c.timed l)))
      (rw (from_is c) (sym (station_waits config h d c.good c.timed l)))
      (omega (arith, run.operands, none (lacks_operand h d)))
      (omega (arith, run.operands, run.ready, none (lacks_address h d)))
      (omega (arith, run.ready, run.clear, none (lacks_memory h d)))
      (omega (arith, run.start, run.clear, none (lacks_unit h d))) (omega arith)
  waits_unit (Some u) run l =
      let d : Done = record { step = s; at = next.at } in
      let marks : HasMarks c.from h s next = has_marks c u run (omega (arith, c.soon)) in
      let clear : IsClear h d next.marks.clear = λ t. rw marks.ready at (marks.clear t) in
      let order : ready_at h d ≤ next.marks.clear = rw marks.ready at marks.order in
      let start : next.marks.clear ≤ next.at.start = start_marked c u run in
      let w1 = operand_waits h d (omega arith) in
      same_waits _ _ (sym (branch_waits config h d l))
      (rw (from_is c) (sym (width_waits config h d c.good c.timed l)))
      (rw (from_is c) (sym (station_waits config h d c.good c.timed l)))
      (omega (arith, w1)) (rw (marks.ready, marks.operands) (sym (address_waits h d (omega arith))))
      (rw marks.ready (sym (memory_waits h d next.marks.clear clear order start)))
      (sym (unit_waits h d next.marks.clear clear order start)) (omega arith)

  -- what is counted of the next step's waits is what the definition says
  pub waits_are : waits_by held.latest next.marks next.at ≡ waits_of config h (record { step = s; at = next.at })
  waits_are =
      rw (c.shown.kept.issue, c.shown.kept.branch) (waits_unit (step_unit s) c.by.run (first_issued c))
