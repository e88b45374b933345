-- The step that comes next by what is held has the times of the recurrence.
use Rattle.std.proofs.Common.{ℕ, ◌+◌, ◌-◌, ◌<◌, ◌≤◌, ◌≡◌, ◌∙◌, Bool, true, false, cond, arith, refl, sym, inl, inr}
use Rattle.std.proofs.Common.{List, Option, Some, None, max, nat_lt, nat_le, ◌&&◌, is_some, count_by, MatchOption}
use Rattle.std.specs.Bool.{MatchBool}
use Rattle.std.specs.List.{list_all}
use Rattle.std.proofs.lemmas.Bool.{cases_Bool, false_from_ne_true, and_from, and_parts, le-leb, lt-ltb, le-ltb}
use Rattle.std.proofs.lemmas.Bool.{leb-true, ltb-true}
use Rattle.tomex_rvdec.specs.Places.{place_of_unit}
use Rattle.tomex_rvdec.specs.declared.pool.PoolId.{PoolId}
use Rattle.tomex_rvdec.specs.declared.pool.UnitId.{UnitId}
use Rattle.tomex_rvexec.specs.Steps.{step_pool, step_unit, step_dest, j_of, k_of}
use Rattle.tomex_rvexec.specs.declared.step.Step.{Step}
use Rattle.tomex_config.specs.Configuration.{Configuration, IsWithinLimits, stations_of, option_of}
use Rattle.tomex_timing.specs.declared.next.Next.{Next}
use Rattle.tomex_config.specs.declared.part.Part.TheVariants.{Stations}
use Rattle.tomex_timing.specs.declared.times.Done.{Done}
use Rattle.tomex_timing.specs.Ahead.{Held, IsIdle, IsNextBy, RunsOn, TakesBus, TakesStation, end_in, is_past}
use Rattle.tomex_reservations.specs.Reservations.{IsFreeFirst, bus_line, end_at, is_left}
use Rattle.tomex_timing.specs.History.{cycle_of, is_memory, last_address, last_issue, source_end}
use Rattle.tomex_timing.specs.Issue.{first_issue, slot_from}
use Rattle.tomex_timing.specs.Recurrence.{IsLeast, IsTimed, AreTimed, EndsAfter, are_conflicts_finished, can_address}
use Rattle.tomex_timing.specs.Recurrence.{can_end, can_issue, can_start, has_operands}
use Rattle.tomex_timing.specs.Search.{least}
use Rattle.tomex_timing.specs.Station.{is_held, has_station, is_free}
use Rattle.tomex_timing.specs.Waiting.{operands_from}
use Rattle.tomex_timing.specs.Recent.{AreInRange, facts_of, ready_from, register_of}
use Rattle.tomex_timing.specs.Summary.{IsSummary}
use Rattle.tomex_timing.proofs.Apart.{all_past, no_access, no_bytes}
use Rattle.tomex_timing.proofs.Summary.{source_agree}
use Rattle.tomex_timing.proofs.Least.{first_from_le, least_agree}
use Rattle.tomex_timing.proofs.Limits.{latency_low, stations_high}
use Rattle.tomex_timing.proofs.Holders.{stations_fit}
use Rattle.tomex_reservations.proofs.Searching.{first_here}
use Rattle.tomex_timing.proofs.Splits.{slot_range, issue_split, ready_split, after_split}
use Rattle.tomex_timing.proofs.Splits.{address_agree}
use Rattle.tomex_timing.proofs.Stations.{number_is}
use Rattle.tomex_timing.proofs.Taken.{peak_within}

-- a step comes next after a history, by what is held of that
pub record ComesNext (config : Configuration) (h : List Done) (held : Held) (s : Step) (next : Next) : Type 0 where
  pub good : IsWithinLimits config
  pub timed : AreTimed config h
  pub from : ℕ
  pub soon : from ≤ first_issue config h
  pub shown : IsSummary from h held
  pub range : AreInRange (facts_of s)
  pub by : IsNextBy config held (facts_of s) next

-- the issue and the station of a step of this pool
record HasIssue (config : Configuration) (h : List Done) (pool : Option PoolId) (from issue : ℕ)
    (station : Option ℕ) : Type 0 where
  first : IsLeast (λ t. nat_le from t && has_station config h pool t) issue
  takes : MatchOption pool (station ≡ None) (λ p. (n : ℕ) × (station ≡ Some n) × IsLeast (is_free p h issue) n)

address_part : (memory : Bool) (h : List Done) (s : Step) (issue : ℕ) (a : Option ℕ)
    → a ≡ cond memory (Some (max (max issue (source_end h (j_of s))) (last_address h) + 1)) None
    → MatchBool memory (IsLeast (can_address h s issue) (cycle_of a)) (a ≡ None)
address_part true h s issue a e = rw e (address_agree h s issue)
address_part false h s issue a e = e

-- an access has its address after its issue and after the last address
past_addresses : (memory : Bool) (issue base last : ℕ) (a : Option ℕ) → memory ≡ true
    → a ≡ cond memory (Some (max (max issue base) last + 1)) None → (issue < cycle_of a) × (last < cycle_of a)
past_addresses false issue base last a e is = absurd (cc)
past_addresses true issue base last a e is = rw is (omega arith, omega arith)

-- the marks of an operation, by the history
pub record HasMarks (from : ℕ) (h : List Done) (s : Step) (next : Next) : Type 0 where
  pub operands : next.marks.operands ≡ operands_from next.at.issue (source_end h (j_of s)) (source_end h (k_of s))
  pub ready : next.marks.ready
      ≡ ready_from next.at.issue next.at.address (source_end h (j_of s)) (source_end h (k_of s))
  -- past each conflict
  pub clear : (t : ℕ) → nat_le next.marks.clear t ≡ (nat_le next.marks.ready t && are_conflicts_finished h s t)
  pub order : next.marks.ready ≤ next.marks.clear
  pub late : from < next.marks.ready

-- the times from the start on
record HasRun (config : Configuration) (h : List Done) (s : Step) (unit : Option UnitId) (next : Next) : Type 0 where
  start : MatchOption unit (next.at.start ≡ next.at.issue)
      (λ u. IsLeast (can_start config h s u next.at.issue (cycle_of next.at.address)) next.at.start)
  finish : MatchOption unit (next.at.finish ≡ next.at.issue)
      (λ u. next.at.finish ≡ next.at.start + (option_of config u).latency - 1)
  end : MatchOption unit (next.at.end ≡ next.at.issue) (λ u. EndsAfter config h s next.at.finish next.at.end)

module _ {config : Configuration} {h : List Done} {held : Held} {s : Step} {next : Next}
    (c : ComesNext config h held s next) where
  -- the station that is free first: then one of the pool's is left, and before that none is
  some_left : (p : PoolId) (from issue n : ℕ) → c.from ≤ from → last_issue h ≤ from → 0 < from
      → IsFreeFirst held.ends p (stations_of config p) from issue n → has_station config h (Some p) issue ≡ true
  some_left p from issue n late after pos first =
      let high : stations_of config p ≤ 16 = stations_high config p c.good in
      let begun : from ≤ issue = first.begun in
      let there : n < stations_of config p = first.there in
      let free : is_free p h issue n ≡ true = c.shown.holds.stations p issue n (omega arith) (omega arith) (omega arith)
      ∙ lt-ltb (end_at held.ends p n) issue first.free in
      lt-ltb (count_by (is_held p issue) h) (stations_of config p)
      (stations_fit config h p issue n (stations_of config p) c.timed (omega arith) free first.there
      (peak_within config h (Stations p) c.timed))

  none_left : (p : PoolId) (from issue n t : ℕ) → c.from ≤ from → 0 < from
      → IsFreeFirst held.ends p (stations_of config p) from issue n → from ≤ t → t < issue
      → has_station config h (Some p) t ≡ false
  none_left p from issue n t late pos first l m = false_from_ne_true (has_station config h (Some p) t) (λ left.
      let is = number_is config h p t left in
      let high : stations_of config p ≤ 16 = stations_high config p c.good in
      let low : least (is_free p h t) (stations_of config p) < stations_of config p = is.1 in
      let ended = ltb-true _ _ (sym (c.shown.holds.stations p t (least (is_free p h t) (stations_of config p))
      (omega arith) (omega arith) (omega arith)) ∙ is.0.0) in
      let holds = first.none (least (is_free p h t) (stations_of config p)) t low l m in
      omega arith)

  has_issue : (pool : Option PoolId) (from issue : ℕ) (station : Option ℕ) → c.from ≤ from → last_issue h ≤ from
      → 0 < from → TakesStation config held.ends pool from issue station → HasIssue config h pool from issue station
  has_issue None from issue station late after pos takes =
      record { first = rw takes.0 (first_here (λ t. true) from refl); takes = takes.1 }
  has_issue (Some p) from issue station late after pos takes =
      let first : IsFreeFirst held.ends p (stations_of config p) from issue takes.0 = takes.2 in
      let begun : from ≤ issue = first.begun in
      let high : stations_of config p ≤ 16 = stations_high config p c.good in
      let there : takes.0 < stations_of config p = first.there in
      record {
        first = (
          and_from (nat_le from issue) _ (le-leb from issue begun)
              (some_left p from issue takes.0 late after pos first),
          λ t l. elim (cases_Bool (nat_le from t)) [
            | inl e ↦ rw e (none_left p from issue takes.0 t late pos first (leb-true from t e) l)
            | inr e ↦ rw e refl
          ],
        );
        takes = (
          takes.0,
          takes.1,
          (
            c.shown.holds.stations p issue takes.0 (omega arith) (omega arith) (omega arith)
                ∙ lt-ltb (end_at held.ends p takes.0) issue first.free,
            λ k l. c.shown.holds.stations p issue k (omega arith) (omega arith) (omega arith)
                ∙ le-ltb (end_at held.ends p k) issue (first.least k l),
          ),
        );
      }

  -- how the operation that comes next runs, if it is one
  abbrev pub Runs : Option UnitId → Type 0
  Runs unit = MatchOption unit (IsIdle next)
      (RunsOn config held.table held.accesses (facts_of s) (end_in held.latest.ends (register_of (j_of s)))
      (end_in held.latest.ends (register_of (k_of s))) next)

  -- past its address it sees each conflict
  conflicts_seen : (t : ℕ) → c.from ≤ next.at.issue → cycle_of next.at.address < t
      → list_all (is_past (facts_of s) t) held.accesses ≡ are_conflicts_finished h s t
  conflicts_seen t late l = elim (cases_Bool (is_memory s)) [
    | inl e ↦
        let past = past_addresses (is_memory s) next.at.issue (end_in held.latest.ends (register_of (j_of s)))
        held.latest.address next.at.address e c.by.address in
        c.shown.holds.conflicts s t (omega (arith, past.0)) (omega (arith, past.1, c.shown.kept.address))
    | inr e ↦ all_past (facts_of s) t held.accesses (no_bytes s e) ∙ sym (no_access h s t e)
  ]

  pub has_marks : (u : UnitId) → Runs (Some u) → c.from ≤ next.at.issue → HasMarks c.from h s next
  has_marks u run late =
      let j = source_agree h held.latest.ends (j_of s) c.shown.kept.ends c.range.j in
      let k = source_agree h held.latest.ends (k_of s) c.shown.kept.ends c.range.k in
      let ready : next.marks.ready
      ≡ ready_from next.at.issue next.at.address (source_end h (j_of s)) (source_end h (k_of s)) =
      rw (j, k) at run.ready in
      let clear : (t : ℕ) → nat_le next.marks.clear t ≡ (nat_le next.marks.ready t && are_conflicts_finished h s t) =
      λ t. run.clear t ∙ elim (cases_Bool (nat_le next.marks.ready t)) [
        | inl e ↦ let l : next.marks.ready ≤ t = leb-true next.marks.ready t e in
            rw (e, conflicts_seen t late (omega arith)) refl
        | inr e ↦ rw e refl
      ] in
      record {
        operands = rw (j, k) at run.operands;
        ready = ready;
        clear = clear;
        order = leb-true next.marks.ready next.marks.clear (and_parts (nat_le next.marks.ready next.marks.clear)
            (are_conflicts_finished h s next.marks.clear)
            (sym (clear next.marks.clear) ∙ le-leb next.marks.clear next.marks.clear (omega arith))).0;
        late = omega arith;
      }

  start_timed : (u : UnitId) → Runs (Some u) → HasMarks c.from h s next
      → IsLeast (can_start config h s u next.at.issue (cycle_of next.at.address)) next.at.start
  start_timed u run marks =
      least_agree (λ t. nat_le next.marks.clear t && is_left held.table (place_of_unit u) (option_of config u).units t)
      (can_start config h s u next.at.issue (cycle_of next.at.address)) next.at.start
      (λ t. let split : nat_le next.marks.ready t
      ≡ ((nat_lt next.at.issue t && nat_lt (cycle_of next.at.address) t) && has_operands h s t) =
      rw marks.ready
      (ready_split next.at.issue (cycle_of next.at.address) (source_end h (j_of s)) (source_end h (k_of s)) t) in
      rw (marks.clear t, ← split) (elim (cases_Bool (nat_le next.marks.ready t)) [
        | inl e ↦ let l : next.marks.ready ≤ t = leb-true next.marks.ready t e in
            rw (e, c.shown.holds.starts u t (omega (arith, marks.late))) refl
        | inr e ↦ rw e refl
      ])) run.start

  end_timed : (dest : Option ℕ) (finish end buses : ℕ) → c.from ≤ finish
      → TakesBus config held.table dest finish end buses
      → MatchBool (is_some dest) (IsLeast (can_end config h finish) end) (end ≡ finish)
  end_timed None finish end buses late takes = takes.0
  end_timed (Some r) finish end buses late takes =
      least_agree (λ t. nat_le (finish + 1) t && is_left held.table bus_line config.buses t) (can_end config h finish)
      end
      (λ t. rw (after_split finish t) (elim (cases_Bool (nat_lt finish t)) [
        | inl e ↦ let l : finish < t = ltb-true finish t e in rw (e, c.shown.holds.results t (omega arith)) refl
        | inr e ↦ rw e refl
      ])) takes.0

  -- it starts no earlier than its marks
  pub start_marked : (u : UnitId) → Runs (Some u) → next.marks.clear ≤ next.at.start
  start_marked u run =
      first_from_le (is_left held.table (place_of_unit u) (option_of config u).units) next.marks.clear next.at.start
      run.start

  has_run : (unit : Option UnitId) → Runs unit → c.from ≤ next.at.issue → HasRun config h s unit next
  has_run None run late = record { start = run.start; finish = run.finish; end = run.end }
  has_run (Some u) run late =
      let marks : HasMarks c.from h s next = has_marks u run late in
      let begun : next.marks.clear ≤ next.at.start = start_marked u run in
      let long : 0 < (option_of config u).latency = latency_low config u c.good in
      let finish : next.at.finish ≡ next.at.start + (option_of config u).latency - 1 = run.finish in
      record {
        start = start_timed u run marks;
        finish = run.finish;
        end = end_timed (step_dest s) next.at.finish next.at.end next.buses (omega arith) run.end;
      }

  pub from_is : next.marks.from ≡ first_issue config h
  from_is = rw (c.shown.kept.issue, c.shown.kept.issued, c.shown.kept.branch) at c.by.from

  issued : HasIssue config h (step_pool s) next.marks.from next.at.issue next.at.station
  issued =
      let from : next.marks.from ≡ first_issue config h = from_is in
      let slot : last_issue h ≤ slot_from config h = (slot_range config h).0 in
      has_issue (step_pool s) next.marks.from next.at.issue next.at.station (omega (arith, c.soon)) (omega arith)
      (omega arith) c.by.issue

  pub first_issued : first_issue config h ≤ next.at.issue
  first_issued =
      let from : next.marks.from ≡ first_issue config h = from_is in
      let l = leb-true next.marks.from next.at.issue (and_parts _ _ issued.first.0).0 in
      omega (arith, l)

  pub next_timed : IsTimed config h s next.at
  next_timed =
      let from : next.marks.from ≡ first_issue config h = from_is in
      let first : IsLeast (can_issue config h s) next.at.issue =
      least_agree (λ t. nat_le next.marks.from t && has_station config h (step_pool s) t) (can_issue config h s)
      next.at.issue (λ t. rw (from, issue_split config h t c.good c.timed) refl) issued.first in
      let run : HasRun config h s (step_unit s) next = has_run (step_unit s) c.by.run
      (omega (arith, c.soon, first_issued)) in
      record {
        issue = first;
        address = address_part (is_memory s) h s next.at.issue next.at.address
            (rw (source_agree h held.latest.ends (j_of s) c.shown.kept.ends c.range.j, c.shown.kept.address)
            at c.by.address);
        start = run.start;
        finish = run.finish;
        end = run.end;
        station = issued.takes;
      }
