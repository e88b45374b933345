-- The turns of the evaluator's loops: what is held before a step of a run, and after it.
use Rattle.std.proofs.Common.{ℕ, ◌+◌, ◌*◌, ◌^◌, ◌<◌, ◌≤◌, ◌≡◌, ◌∙◌, arith, List, [], ◌∷◌, ◌++◌, Option, Some, None, ap}
use Rattle.std.proofs.Common.{refl, length, map, take, zero, suc}
use Rattle.std.specs.Prelude.{nat_le, slice_index_or, IfSome, MatchOption, ◌==◌}
use Rattle.std.proofs.lemmas.Bool.{and_parts, ltb-true}
use Rattle.std.proofs.lemmas.List.{length-map, length-take-le, map-append, take_more}
use Rattle.std.proofs.lemmas.List.Elements.{All-push}
use Rattle.std.proofs.lemmas.List.Sums.{count_by-le-length}
use Rattle.tomex_rvdec.specs.Places.{place_of_unit}
use Rattle.tomex_rvdec.specs.declared.pool.PoolId.{PoolId}
use Rattle.tomex_rvdec.specs.declared.pool.UnitId.{UnitId}
use Rattle.tomex_rvexec.specs.declared.step.Step.{Step}
use Rattle.tomex_rvexec.proofs.Fields.{bytes_of_memory}
use Rattle.tomex_config.specs.Configuration.{Configuration, IsWithinLimits, option_of, stations_of}
use Rattle.tomex_reservations.specs.Reservations.{IsFirst, Reserved, bus_line, is_left, taken_at}
use Rattle.tomex_timing.specs.declared.needs.Needs.{Needs}
use Rattle.tomex_timing.specs.declared.next.Next.{Next}
use Rattle.tomex_timing.specs.declared.times.Done.{Done}
use Rattle.tomex_timing.specs.declared.need.Waits.{Waits}
use Rattle.tomex_timing.specs.declared.waiting.Taken.{Taken}
use Rattle.tomex_timing.specs.declared.recent.Facts.{Facts}
use Rattle.tomex_timing.specs.Ahead.{CanKeep, Held, IsHeldAfter, IsIdle, IsNextBy, IsReady, RunsOn, TakesBus}
use Rattle.tomex_timing.specs.Ahead.{TakesStation, end_in}
use Rattle.tomex_timing.specs.History.{last_issue, greatest_end}
use Rattle.tomex_timing.specs.Issue.{first_issue}
use Rattle.tomex_timing.specs.Laws.{InReach}
use Rattle.tomex_timing.specs.Needs.{AreNeeds, waits_in, waits_of}
use Rattle.tomex_timing.specs.Recurrence.{IsTimed}
use Rattle.tomex_timing.specs.Search.{times_of, history, times_in}
use Rattle.tomex_timing.specs.Waiting.{AreWithin, IsWithin, needs_after, taken_from, waits_by}
use Rattle.tomex_timing.specs.Recent.{AreFacts, AreInRange, facts_of}
use Rattle.tomex_timing.specs.Summary.{IsKept, IsSummary}
use Rattle.tomex_timing.proofs.Charges.{waits_are}
use Rattle.tomex_timing.proofs.Histories.{are_timed, history_more, times_more, history_bound, length-history}
use Rattle.tomex_timing.proofs.Limits.{buses_high, stations_high, units_high}
use Rattle.tomex_timing.proofs.Needed.{needs_more, taken_is}
use Rattle.tomex_timing.proofs.NextTimed.{ComesNext, first_issued, next_timed}
use Rattle.tomex_timing.proofs.Orders.{reach, start_after}
use Rattle.tomex_timing.proofs.Search.{times_are, times_same}
use Rattle.tomex_timing.proofs.Splits.{slot_range}
use Rattle.tomex_timing.proofs.Summary.{IsShown, settled_by}
use Rattle.tomex_timing.proofs.SummaryTurns.{shown_turn}
use Rattle.tomex_timing.proofs.WaitLists.{needs_within, waits_within, waits_more}

-- what is held before a step is small
pub small : (config : Configuration) (steps : List Step) (i : ℕ) (held : Held) → IsWithinLimits config
    → i ≤ length steps → IsKept (history config (take i steps)) held.latest
    → (held.latest.end ≤ 67 * i) × (held.latest.issued ≤ i)
small config steps i held good l kept =
    let h = history config (take i steps) in
    let b : greatest_end h ≤ 67 * length (take i steps) = history_bound config (take i steps) good in
    let n : length h ≡ length (take i steps) = length-history config (take i steps) in
    let e : length (take i steps) ≡ i = length-take-le i steps l in
    let few = count_by-le-length (λ d. d.at.issue == last_issue h) h in
    (omega (arith, kept.end), omega (arith, kept.issued))

-- the step of a run at a place
pub record IsStep (config : Configuration) (steps : List Step) (i : ℕ) (x : Step) (f : Facts) : Type 0 where
  pub good : IsWithinLimits config
  pub few : length steps < 2 ^ 56
  pub place : i < length steps
  pub at : slice_index_or steps i x ≡ x
  pub facts : f ≡ facts_of x
  pub range : AreInRange f

pub step_from : (config : Configuration) (steps : List Step) (i : ℕ) (x : Step) {f : Facts} → IsWithinLimits config
    → length steps < 2 ^ 56 → i < length steps → slice_index_or steps i x ≡ x → f ≡ facts_of x → AreInRange f
    → IsStep config steps i x f
step_from config steps i x good few place at facts range =
    record { good = good; few = few; place = place; at = at; facts = facts; range = range }

-- the step whose facts are at a place
step_at : (steps : List Step) (i : ℕ) (d : Facts) → i < length steps → (x : Step) × (slice_index_or steps i x ≡ x)
    × (slice_index_or (map facts_of steps) i d ≡ facts_of x)
step_at [] i d l = absurd (omega arith)
step_at (x ∷ steps) zero d l = (x, refl, refl)
step_at (x ∷ steps) (suc i) d l = step_at steps i d (omega arith)

pub length_facts : (steps : List Step) (facts : List Facts) → AreFacts steps facts → length facts ≡ length steps
length_facts steps facts are = rw are.are (length-map steps facts_of)

pub step_of : (config : Configuration) (steps : List Step) (facts : List Facts) (i : ℕ) (d : Facts)
    → IsWithinLimits config → AreFacts steps facts → i < length facts → length facts < 2 ^ 56 → (x : Step)
    × IsStep config steps i x (slice_index_or facts i d)
step_of config steps facts i d good are l few =
    let n : length facts ≡ length steps = length_facts steps facts are in
    let there = step_at steps i d (omega arith) in (
      there.0,
      step_from config steps i there.0 good (omega arith) (omega arith) there.1
          (ap (λ fs. slice_index_or fs i d) are.are ∙ there.2) (are.range i d l),
    )

-- one step's facts more
pub facts_more : (steps : List Step) (facts : List Facts) (i : ℕ) (x : Step) (f : Facts) → i < length steps
    → slice_index_or steps i x ≡ x → f ≡ facts_of x → AreInRange f → AreFacts (take i steps) facts
    → AreFacts (take (i + 1) steps) (facts ++ (f ∷ []))
facts_more steps facts i x f l at of range are = record {
  are = rw (take_more steps i x l, at, map-append, of, are.are) refl;
  range = All-push AreInRange facts f are.range range;
}

-- the next step issues in program order
pub issue_first : (config : Configuration) (h : List Done) → last_issue h ≤ first_issue config h
issue_first config h = let low = (slot_range config h).0 in omega (arith, low)

-- and what comes next with it, by what is held before
pub record IsTurn (config : Configuration) (steps : List Step) (i : ℕ) (x : Step) (f : Facts) (held : Held)
    (next : Next) : Type 0 where
  pub step : IsStep config steps i x f
  pub from : ℕ
  pub soon : from ≤ first_issue config (history config (take i steps))
  pub shown : IsSummary from (history config (take i steps)) held
  pub by : IsNextBy config held f next

pub turn_of : {config : Configuration} {steps : List Step} {i : ℕ} {x : Step} {f : Facts} {held : Held} {next : Next}
    → IsStep config steps i x f → IsShown (history config (take i steps)) held → IsNextBy config held f next
    → IsTurn config steps i x f held next
turn_of {config} {steps} {i} step shown by = record {
  step = step;
  from = last_issue (history config (take i steps));
  soon = issue_first config (history config (take i steps));
  shown = shown;
  by = by;
}

-- a step that is next can be kept
not_full : (table : Reserved) (line most from t : ℕ) → most ≤ 8 → IsFirst from (is_left table line most) t
    → taken_at table line t < 255
not_full table line most from t few first =
    let left : taken_at table line t < most =
    ltb-true (taken_at table line t) most (and_parts (nat_le from t) (is_left table line most t) first.0).1 in
    omega arith

units_fit : (config : Configuration) (held : Held) (f : Facts) (j k : ℕ) (x : Option UnitId) (next : Next)
    → IsWithinLimits config → MatchOption x (IsIdle next) (RunsOn config held.table held.accesses f j k next)
    → IfSome x (λ unit. taken_at held.table (place_of_unit unit) next.at.start < 255)
units_fit config held f j k None next good run = tt
units_fit config held f j k (Some u) next good run =
    not_full held.table (place_of_unit u) (option_of config u).units next.marks.clear next.at.start
    (units_high config u good) run.start

buses_fit : (config : Configuration) (held : Held) (f : Facts) (j k : ℕ) (x : Option UnitId) (dest : Option ℕ)
    (next : Next) → IsWithinLimits config → f.dest ≡ dest
    → MatchOption x (IsIdle next) (RunsOn config held.table held.accesses f j k next)
    → IfSome x (λ unit. IfSome dest (λ r. taken_at held.table bus_line next.at.end < 255))
buses_fit config held f j k None dest next good of run = tt
buses_fit config held f j k (Some u) None next good of run = tt
buses_fit config held f j k (Some u) (Some r) next good of run =
    let end : TakesBus config held.table (Some r) next.at.finish next.at.end next.buses = rw of at run.end in
    not_full held.table bus_line config.buses (next.at.finish + 1) next.at.end (buses_high config good) end.0

number_fits : (config : Configuration) (taken : List ℕ) (x : Option PoolId) (from issue : ℕ) (station : Option ℕ)
    → IsWithinLimits config → TakesStation config taken x from issue station → IfSome station (λ n. n < 16)
number_fits config taken None from issue station good takes = rw takes.1 tt
number_fits config taken (Some p) from issue station good takes =
    let there : takes.0 < stations_of config p = takes.2.there in
    rw takes.1 (omega (arith, stations_high config p good))

module _ {config : Configuration} {steps : List Step} {i : ℕ} {x : Step} {f : Facts} {held : Held} {next : Next}
    (turn : IsTurn config steps i x f held next) where
  comes : ComesNext config (history config (take i steps)) held x next
  comes = record {
    good = turn.step.good;
    timed = are_timed config (take i steps) turn.step.good;
    from = turn.from;
    soon = turn.soon;
    shown = turn.shown;
    range = rw turn.step.facts at turn.step.range;
    by = rw turn.step.facts at turn.by;
  }

  pub is_timed : IsTimed config (history config (take i steps)) x next.at
  is_timed = next_timed comes

  pub reaches : InReach (greatest_end (history config (take i steps))) next.at
  reaches = reach config (record { step = x; at = next.at }) (history config (take i steps)) turn.step.good
      (is_timed, are_timed config (take i steps) turn.step.good)

  pub same_times : next.at ≡ times_of config (history config (take i steps)) x
  same_times = times_same config (history config (take i steps)) x next.at
      (times_of config (history config (take i steps)) x) is_timed
      (times_are config (history config (take i steps)) x turn.step.good
      (are_timed config (take i steps) turn.step.good))

  one_more : take (i + 1) steps ≡ take i steps ++ (x ∷ [])
  one_more = take_more steps i x turn.step.place ∙ ap (λ y. take i steps ++ (y ∷ [])) turn.step.at

  pub longer : history config (take (i + 1) steps) ≡ record { step = x; at = next.at } ∷ history config (take i steps)
  longer = rw (one_more, same_times) (history_more config (take i steps) x)

  pub held_turn : {after : Held} → IsHeldAfter f next.at held after
      → IsShown (history config (take (i + 1) steps)) after
  held_turn is_after = rw longer (shown_turn comes (rw turn.step.facts at is_after))

  pub times_turn : times_in config (take (i + 1) steps) ≡ times_in config (take i steps) ++ (next.at ∷ [])
  times_turn = rw (one_more, same_times) (times_more config (take i steps) x)

  pub can_keep : held.latest.issued < 2 ^ 63 → CanKeep f next.at held
  can_keep few =
      let base : held.table.base ≤ turn.from = turn.shown.holds.base in
      let j = end_in held.latest.ends f.j in
      let k = end_in held.latest.ends f.k in
      record {
        register = turn.step.range.dest;
        few = few;
        station = number_fits config held.ends f.pool next.marks.from next.at.issue next.at.station turn.step.good
            turn.by.issue;
        reserve = record {
          base = omega (arith, turn.soon, first_issued comes);
          start = start_after config (history config (take i steps)) x next.at is_timed;
          end = reaches.issue;
          units = units_fit config held f j k f.unit next turn.step.good turn.by.run;
          buses = buses_fit config held f j k f.unit f.dest next turn.step.good refl turn.by.run;
        };
      }

  pub turn_waits : {waits : Waits} → waits ≡ waits_by held.latest next.marks next.at
      → waits ≡ waits_of config (history config (take i steps)) (record { step = x; at = next.at })
  turn_waits waited = waited ∙ waits_are comes

  pub waits_turn : {waits : Waits} → waits ≡ waits_by held.latest next.marks next.at
      → waits_in config (take (i + 1) steps) ≡ waits_in config (take i steps) ++ (waits ∷ [])
  waits_turn waited = rw (one_more, turn_waits waited, same_times) (waits_more config (take i steps) x)

  pub waits_small : {waits : Waits} (n : ℕ) → 67 * length steps ≤ n
      → waits ≡ waits_by held.latest next.marks next.at → AreWithin n waits
  waits_small n few waited =
      let place : i < length steps = turn.step.place in
      let b : greatest_end (history config (take i steps)) ≤ 67 * length (take i steps) =
      history_bound config (take i steps) turn.step.good in
      let e : length (take i steps) ≡ i = length-take-le i steps (omega arith) in
      let end : next.at.end ≤ greatest_end (history config (take i steps)) + 67 = reaches.end in
      rw (turn_waits waited) (waits_within config (history config (take i steps))
      (record { step = x; at = next.at }) n reaches (omega arith))

  pub needs_turn : {needs : Needs} {waits : Waits} {takes : Taken} → waits ≡ waits_by held.latest next.marks next.at
      → takes ≡ taken_from held.latest next → AreNeeds config (history config (take i steps)) needs
      → AreNeeds config (history config (take (i + 1) steps)) (needs_after f waits takes next.at needs)
  needs_turn {needs} {waits} {takes} waited took are =
      rw (longer, turn.step.facts) (needs_more config (history config (take i steps))
      (record { step = x; at = next.at }) needs waits takes are (turn_waits waited)
      (λ part. rw took (taken_is comes part)))

-- a step can be timed by what shows the steps before it, and kept
pub ready : {config : Configuration} {steps : List Step} {i : ℕ} {x : Step} {f : Facts} {held : Held}
    → IsStep config steps i x f → IsShown (history config (take i steps)) held → IsReady config held f
ready {config} {steps} {i} {x} {f} {held} step shown =
    let place : i < length steps = step.place in
    let most : length steps < 2 ^ 56 = step.few in
    let low = small config steps i held step.good (omega arith) shown.kept in
    let few : held.latest.issued < 2 ^ 63 = omega (arith, low.1) in
    record {
      range = step.range;
      memory = rw step.facts (bytes_of_memory x);
      settled = settled_by config (history config (take i steps)) held step.good
          (are_timed config (take i steps) step.good) shown;
      small = omega (arith, low.0);
      few = few;
      keeps = λ next by. can_keep (turn_of step shown by) few;
    }

pub needs_small : (config : Configuration) (steps : List Step) (facts : List Facts) (i : ℕ) (needs : Needs)
    → IsWithinLimits config → AreFacts steps facts → i ≤ length facts → length facts < 2 ^ 28
    → AreNeeds config (history config (take i steps)) needs → IsWithin (2 ^ 63) needs
needs_small config steps facts i needs good are l few those =
    let n : length facts ≡ length steps = length_facts steps facts are in
    let b : length (history config (take i steps)) ≡ length (take i steps) = length-history config (take i steps) in
    let e : length (take i steps) ≡ i = length-take-le i steps (omega arith) in
    needs_within config (history config (take i steps)) needs good (are_timed config (take i steps) good) (omega arith)
    those
