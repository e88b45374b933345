-- What the evaluator holds shows a history from a cycle on: before the first step, and when a step is kept.
use Rattle.std.proofs.Common.{ℕ, suc, ◌+◌, ◌<◌, ◌≤◌, ◌≡◌, ◌∙◌, Bool, true, false, cond, arith, refl, List, [], ◌∷◌}
use Rattle.std.proofs.Common.{Option, Some, None, ap, inl, inr, sym, length, IfSome}
use Rattle.std.specs.Prelude.{◌==◌, count_by, slice_index, length, nat_lt, nat_le, not, ◌&&◌}
use Rattle.std.proofs.lemmas.List.{get_or-replicate, get_or-set_same, get_or-set_other, length-set}
use Rattle.std.proofs.lemmas.List.Sums.{sum_by-cons}
use Rattle.std.proofs.lemmas.Bool.{cases_Bool, cases_eq, cases_order, eq-eqb, ne_eqb, MatchBool-at_true}
use Rattle.std.proofs.lemmas.Bool.{MatchBool-at_false, and_right, lt-ltb, lt-leb, ltb-true}
use Rattle.tomex_rvexec.specs.Steps.{step_dest, is_branch, step_pool, is_in, is_number}
use Rattle.tomex_rvexec.specs.declared.step.Operand.{Operand}
use Rattle.tomex_rvexec.specs.declared.step.Step.{Step}
use Rattle.tomex_config.specs.Configuration.{Configuration, IsWithinLimits}
use Rattle.tomex_timing.specs.declared.times.Done.{Done}
use Rattle.tomex_timing.specs.declared.times.Times.{Times}
use Rattle.tomex_timing.specs.declared.recent.Latest.{Latest}
use Rattle.tomex_timing.specs.Ahead.{Held, IsSettledBy, end_in, nothing_held}
use Rattle.tomex_timing.specs.History.{is_memory, cycle_of, writer_end, source_end, last_issue}
use Rattle.tomex_timing.specs.History.{greatest_end}
use Rattle.tomex_timing.specs.Issue.{branch_finish}
use Rattle.tomex_timing.specs.Recurrence.{IsLeast, IsTimed, AreTimed, can_address}
use Rattle.tomex_timing.specs.Recent.{facts_of, register_of, written_by, addressed_by, latest_after}
use Rattle.tomex_timing.specs.Summary.{HoldsFrom, IsKept, IsSummary}
use Rattle.tomex_timing.proofs.Search.{address_pos}
use Rattle.tomex_timing.proofs.AfterEnd.{AllBy, IsDoneBy, all_pass, starts_none, results_none, last_address_by}
use Rattle.tomex_timing.proofs.AfterEnd.{last_issue_by, writer_end_by, writer_of_zero}
use Rattle.tomex_timing.proofs.Width.{issue_from, none_later}
use Rattle.std.proofs.lemmas.List.Elements.{All-nil}
use Rattle.tomex_rvdec.specs.Places.{place_of_unit}
use Rattle.tomex_rvdec.specs.declared.pool.PoolId.{PoolId}
use Rattle.tomex_reservations.specs.Reservations.{end_at, station_place, taken_at}
use Rattle.tomex_timing.specs.Station.{is_held, is_free}
use Rattle.tomex_timing.proofs.Bound.{timed_by}
use Rattle.tomex_rvdec.proofs.Places.{pool_low, unit_low}

pub branch_finish_by : (g : ℕ) (h : List Done) → AllBy g h → branch_finish h ≤ g
branch_finish_by g [] h = omega arith
branch_finish_by g (d ∷ older) h = elim (cases_Bool (is_branch d.step)) [
  | inl e ↦ let k : branch_finish older ≤ g = branch_finish_by g older h.1 in let f : d.at.finish ≤ g = h.0.finish in
      rw e (omega arith)
  | inr e ↦ rw e (branch_finish_by g older h.1)
]

-- the ends of the operands' producers
pub source_agree : (h : List Done) (ends : List ℕ) (o : Option Operand)
    → ((r : ℕ) → r < 32 → slice_index ends r ≡ writer_end h r) → IfSome (register_of o) (λ r. r < 32)
    → end_in ends (register_of o) ≡ source_end h o
source_agree h ends None same small = refl
source_agree h ends (Some o) same small = same o.register small

writer_kept : (h : List Done) (d : Done) (dest : Option ℕ) (end : ℕ) (written : List ℕ) → step_dest d.step ≡ dest
    → d.at.end ≡ end → length written ≡ 32 → ((r : ℕ) → r < 32 → slice_index written r ≡ writer_end h r)
    → IfSome dest (λ r. r < 32) → (r : ℕ) → r < 32 → slice_index (written_by dest end written) r ≡ writer_end (d ∷ h) r
writer_kept h d None end written e f len same small r l = rw e (same r l)
writer_kept h d (Some q) end written e f len same small r l = elim (cases_eq q r) [
  | inl y ↦
      let b : (q == r) ≡ true = eq-eqb q r y in
      let m : q < length written = rw len small in
      rw (e, b, f, ← y) (get_or-set_same written q end 0 m)
  | inr n ↦
      let b : (q == r) ≡ false = ne_eqb q r n in
      rw (e, b) (get_or-set_other written q r end 0 (λ (z : r ≡ q). n (sym z)) ∙ same r l)
]

pub address_kept : (b : Bool) (a : Option ℕ) (n : ℕ) → (b ≡ true → 0 < cycle_of a) → (b ≡ false → a ≡ None)
    → addressed_by a n ≡ cond b (cycle_of a) n
address_kept true None n pos none = absurd (let k : 0 < cycle_of None = pos refl in omega arith)
address_kept true (Some t) n pos none = refl
address_kept false a n pos none = rw (none refl) refl

pub length-written_by : (dest : Option ℕ) (end : ℕ) (written : List ℕ)
    → length (written_by dest end written) ≡ length written
length-written_by None end written = refl
length-written_by (Some r) end written = length-set written r end

-- the count of those that issue in the last cycle of issue
pub issued_kept : (config : Configuration) (h : List Done) (issue issued : ℕ) → AreTimed config h → last_issue h ≤ issue
    → issued ≡ count_by (λ d. d.at.issue == last_issue h) h
    → cond (issue == last_issue h) (issued + 1) 1 ≡ suc (count_by (λ d. d.at.issue == issue) h)
issued_kept config h issue issued timed l e = elim (cases_eq issue (last_issue h)) [
  | inl f ↦ let b : (issue == last_issue h) ≡ true = eq-eqb issue (last_issue h) f in rw (b, f, e) (omega arith)
  | inr n ↦
      let b : (issue == last_issue h) ≡ false = ne_eqb issue (last_issue h) n in
      let less : last_issue h < issue =
      elim (cases_order (last_issue h) issue)
      [ inl f ↦ absurd (n (sym f)) | inr (inl k) ↦ k | inr (inr k) ↦ absurd (omega arith) ] in
      rw (b, none_later config h issue timed less) refl
]

count_first : (d : Done) (h : List Done) → count_by (λ x. x.at.issue == d.at.issue) (d ∷ h)
    ≡ suc (count_by (λ x. x.at.issue == d.at.issue) h)
count_first d h = rw (sum_by-cons, eq-eqb d.at.issue d.at.issue refl) (omega arith)

pub kept_on : (config : Configuration) (h : List Done) (s : Step) (at : Times) (latest : Latest)
    → IfSome (step_dest s) (λ r. r < 32) → AreTimed config h → IsKept h latest → IsTimed config h s at
    → IsKept (record { step = s; at = at } ∷ h) (latest_after (facts_of s) at latest)
kept_on config h s at latest small before kept timed =
    let l : last_issue h ≤ at.issue = issue_from config h s at.issue timed.issue.0 in
    let d : Done = record { step = s; at = at } in
    record {
      ends = writer_kept h d (step_dest s) at.end latest.ends refl refl kept.count kept.ends small;
      count = length-written_by (step_dest s) at.end latest.ends ∙ kept.count;
      issue = refl;
      issued = rw kept.issue (issued_kept config h at.issue latest.issued before l kept.issued ∙ sym (count_first d h));
      branch = rw kept.branch refl;
      address = address_kept (is_memory s) at.address latest.address
          (λ e. let a : IsLeast (can_address h s at.issue) (cycle_of at.address) =
          MatchBool-at_true _ _ e timed.address in address_pos h s at.issue (cycle_of at.address) a.0)
          (λ e. MatchBool-at_false (IsLeast (can_address h s at.issue) (cycle_of at.address)) _ e timed.address)
          ∙ ap (λ k. cond (is_memory s) (cycle_of at.address) k) kept.address;
      end = rw kept.end refl;
    }

nothing_at : (line t : ℕ) → line < 6 → taken_at (record { base = 0; slots = [] }) line t ≡ 0
nothing_at line t l = get_or-replicate 8 line 0 0 (omega arith)

place_low : (pool : PoolId) (n : ℕ) → n < 16 → station_place pool n < 96
place_low pool n l = omega (arith, pool_low pool)

-- it shows the history exactly, from its last issue on
abbrev pub IsShown : List Done → Held → Type 0
IsShown h held = IsSummary (last_issue h) h held

-- what it shows from a cycle on it shows from a later one on
pub holds_later : (from to : ℕ) (h : List Done) (held : Held) → from ≤ to
    → HoldsFrom from h held.table held.ends held.accesses → HoldsFrom to h held.table held.ends held.accesses
holds_later from to h held l holds = record {
  base = omega (arith, holds.base);
  starts = λ unit t m. holds.starts unit t (omega arith);
  results = λ t m. holds.results t (omega arith);
  stations = λ pool t n pos m k. holds.stations pool t n pos (omega arith) k;
  size = holds.size;
  conflicts = λ s t m k. holds.conflicts s t (omega arith) k;
  finishes = holds.finishes;
}

pub empty_summary : IsShown [] nothing_held
empty_summary = record {
  kept = record {
    ends = λ r l. get_or-replicate 32 r 0 0 l;
    count = refl;
    issue = refl;
    issued = refl;
    branch = refl;
    address = refl;
    end = refl;
  };
  holds = record {
    base = omega arith;
    starts = λ unit t l. nothing_at (place_of_unit unit) t (omega (arith, unit_low unit));
    results = λ t l. nothing_at 5 t (omega arith);
    stations = λ pool t n pos from l.
        sym (rw (get_or-replicate {A = ℕ} 96 (station_place pool n) 0 0 (place_low pool n l)) (lt-ltb 0 t pos));
    size = refl;
    conflicts = λ s t l m. refl;
    finishes = All-nil (λ a. a.finish ≤ 0);
  };
}

free_after : (pool : PoolId) (g t n : ℕ) (h : List Done) → AllBy g h → g < t → is_free pool h t n ≡ true
free_after pool g t n h by l =
    all_pass (λ (d : Done). not (is_held pool t d && is_number d.at.station n)) (IsDoneBy g)
    (λ d k. let f : is_held pool t d ≡ false =
    and_right (is_in pool (step_pool d.step)) (nat_le t d.at.end) (lt-leb t d.at.end (omega (arith, k.end))) in
    rw f refl) h by

-- so nothing that is held does
pub settled_by : (config : Configuration) (h : List Done) (held : Held) → IsWithinLimits config → AreTimed config h
    → IsShown h held → IsSettledBy held
settled_by config h held good timed shown =
    let by : AllBy (greatest_end h) h = timed_by config h good timed in
    let e : held.latest.end ≡ greatest_end h = shown.kept.end in
    let i : last_issue h ≤ greatest_end h = last_issue_by (greatest_end h) h by in
    let kept : IsKept h held.latest = shown.kept in
    record {
      base = rw shown.kept.issue shown.holds.base;
      starts = λ unit t l.
          shown.holds.starts unit t (omega arith) ∙ starts_none h unit (greatest_end h) t by (omega arith);
      results = λ t l. shown.holds.results t (omega arith) ∙ results_none h (greatest_end h) t by (omega arith);
      stations = λ pool n l.
          let free : nat_lt (end_at held.ends pool n) (greatest_end h + 1) ≡ true =
          sym (shown.holds.stations pool (greatest_end h + 1) n (omega arith) (omega arith) l)
          ∙ free_after pool (greatest_end h) (greatest_end h + 1) n h by (omega arith) in
          let low : end_at held.ends pool n < greatest_end h + 1 =
          ltb-true (end_at held.ends pool n) (greatest_end h + 1) free in
          omega arith;
      finishes = rw e shown.holds.finishes;
      ends = λ r l. rw (kept.ends r l, e) (writer_end_by (greatest_end h) h r by);
      zero = shown.kept.ends 0 (omega arith) ∙ writer_of_zero h;
      issue = rw (kept.issue, e) i;
      branch = rw (kept.branch, e) (branch_finish_by (greatest_end h) h by);
      address = rw (kept.address, e) (last_address_by (greatest_end h) h by);
    }
