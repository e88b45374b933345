-- Along a path that binds another machine, each event comes in a second run of the same steps, on that machine, no more
-- cycles earlier than its latencies of the operations so far are less, and one for each wait for the width, if its is
-- greater.
use Rattle.std.proofs.Common.{ℕ, ◌+◌, ◌-◌, ◌<◌, ◌≤◌, ◌≡◌, ◌∙◌, true, false, arith, refl, ap, subst, inl, inr}
use Rattle.std.proofs.Common.{List, [], ◌∷◌, Option, Some, None, ◌==◌, count_by, is_some, sum_by}
use Rattle.std.proofs.lemmas.Bool.{and_parts, cases_Bool, cases_lt, eqb-true, lt-ltb, ltb-true}
use Rattle.std.proofs.lemmas.Bool.{MatchBool-at_true, MatchBool-at_false}
use Rattle.std.proofs.lemmas.List.Sums.{sum_by-cons}
use Rattle.tomex_rvdec.specs.declared.pool.UnitId.{UnitId}
use Rattle.tomex_rvexec.specs.Steps.{j_of, k_of, step_dest, step_pool, step_unit}
use Rattle.tomex_rvexec.specs.declared.step.Operand.{Operand}
use Rattle.tomex_rvexec.specs.declared.step.Step.{Step}
use Rattle.tomex_config.specs.Configuration.{Configuration, IsWithinLimits, option_of, stations_of}
use Rattle.tomex_config.specs.declared.part.Part.TheVariants.{Width}
use Rattle.tomex_timing.specs.declared.tables.Tag.{Tag}
use Rattle.tomex_timing.specs.declared.times.Done.{Done}
use Rattle.tomex_timing.specs.History.{cycle_of, is_memory, last_issue, source_end}
use Rattle.tomex_timing.specs.Needs.{waits_of}
use Rattle.tomex_timing.specs.Recent.{register_of}
use Rattle.tomex_timing.specs.Recurrence.{AreTimed, IsLeast, can_address, can_end, conflicts}
use Rattle.tomex_timing.specs.Station.{has_station, is_held}
use Rattle.tomex_timing.proofs.Bound.{end_low, issue_low}
use Rattle.tomex_timing.proofs.Limits.{latency_low, width_low}
use Rattle.tomex_timing.proofs.Orders.{reach, result_end}
use Rattle.tomex_timing.proofs.Search.{issue_station}
use Rattle.tomex_timing.proofs.Tests.{at_once, can_address_is, cases_unit, operation}
use Rattle.tomex_timing.proofs.Width.{issue_from}
use Rattle.tomex_floor.specs.Floor.{last_finish}
use Rattle.tomex_floor.proofs.Above.{issue_above, start_above}
use Rattle.tomex_path.specs.declared.event.Event.{Event}
use Rattle.tomex_path.specs.declared.event.Event.TheVariants as events
use Rattle.tomex_path.specs.declared.event.Holder.{Holder}
use Rattle.tomex_path.specs.declared.hold.Hold.{Hold}
use Rattle.tomex_path.specs.declared.reason.Reason.TheVariants.{For}
use Rattle.tomex_path.specs.Bound.{binds, keeps, latency_on, saved_by_width}
use Rattle.tomex_path.specs.Holds.{cycle_at, event_of, hold_of, just_ended, passes}
use Rattle.tomex_path.specs.Path.{hold_by, link_of, links, operation_in}
use Rattle.tomex_path.proofs.Addresses.{address_case, end_case}
use Rattle.tomex_path.proofs.Cases.{address_hold, end_hold, issue_hold, start_hold}
use Rattle.tomex_path.proofs.Chain.{holder_at}
use Rattle.tomex_path.proofs.NoStarts.{is_start, no_start}
use Rattle.tomex_path.proofs.Operands.{end_of, source_is}
use Rattle.tomex_path.proofs.Operations.{lost, none_after, none_without, saved_more, some_within, spent}
use Rattle.tomex_path.proofs.PathStalls.{tag_pool}
use Rattle.tomex_path.proofs.SecondRun.{AreSame, branch_second, conflict_second, issued_second, memory_second}
use Rattle.tomex_path.proofs.SecondRun.{none_second, second_at, station_second, width_second, writer_second}
use Rattle.tomex_path.proofs.StartCases.{no_wait, start_case}
use Rattle.tomex_path.proofs.StationEnds.{issue_cases}
use Rattle.tomex_path.proofs.Whole.{has_address, held_met, later}

-- The machine keeps the wait, and what holds an event is, with what was gained before it, no later than in the second
-- run, with what was lost.
pub record Follows (other : Configuration) (h g : List Done) (gain loss : ℕ) (k : Hold) : Type 0 where
  pub keep : keeps other k.reason ≡ true
  pub early : holder_at k.by h + gain ≤ second_at k.by h g + loss

follows_as : {other : Configuration} {h g : List Done} {gain loss : ℕ} {k l : Hold} → k ≡ l
    → Follows other h g gain loss k → Follows other h g gain loss l
follows_as {other} {h} {g} {gain} {loss} {k} {l} e f = subst (λ (m : Hold). Follows other h g gain loss m) e f

-- what just ended is the producer's end or nothing
just_end : (h g : List Done) (o : Option Operand) (t : ℕ) → end_of g (just_ended h o t) ≤ source_end g o
just_end h g o t = elim (cases_Bool (source_end h o + 1 == t)) [
  | inl e ↦ rw (e, source_is g o) (omega arith)
  | inr e ↦ rw e (omega arith)
]

-- if a machine has one station of a pool, none is held as a step of the pool issues
none_held : (other : Configuration) (b : Done) (g : List Done) (tag : Tag) → AreTimed other (b ∷ g)
    → step_pool b.step ≡ Some tag.pool → stations_of other tag.pool ≡ 1
    → count_by (is_held tag.pool b.at.issue) g ≡ 0
none_held other b g tag timed own one =
    let has : has_station other g (Some tag.pool) b.at.issue ≡ true =
    rw own at (issue_station other g b.step b.at.issue timed.0.issue.0) in
    let few : count_by (is_held tag.pool b.at.issue) g < stations_of other tag.pool = ltb-true _ _ has in
    omega arith

-- a run and a second one of the same steps
pub record AreRuns (config other : Configuration) (d b : Done) (h g : List Done) : Type 0 where
  pub good : IsWithinLimits config
  pub timed : AreTimed config (d ∷ h)
  pub second : AreTimed other (b ∷ g)
  pub same : AreSame (d ∷ h) (b ∷ g)

lost_one : (config other : Configuration) → config.width < other.width → lost config other (For Width) ≡ 1
lost_one config other w = rw (lt-ltb config.width other.width w) refl

-- what is gained and lost with a link's operation, if there is one
module _ (config other : Configuration) (o : Option UnitId) (gain loss to t : ℕ) where
  early_plain : o ≡ None → to + gain ≤ t + loss → to + (latency_on other o + gain) ≤ t + (latency_on config o + loss)
  early_plain none early = rw none (omega arith)

  early_unit : (unit : UnitId) → o ≡ Some unit
      → to + (option_of other unit).latency + gain ≤ t + (option_of config unit).latency + loss
      → to + (latency_on other o + gain) ≤ t + (latency_on config o + loss)
  early_unit unit some early = rw some (omega arith)

module _ (config other : Configuration) (d b : Done) (h g : List Done) (r : AreRuns config other d b h g) where
  -- what is gained and lost up to a cycle, with a link's operation and its wait
  abbrev IsEarly : ℕ → ℕ → Hold → ℕ → ℕ → Type 0
  IsEarly gain loss k to t = to + (latency_on other (operation_in d k.from to) + gain)
      ≤ t + (latency_on config (operation_in d k.from to) + (loss + lost config other k.reason))

  module _ (gain loss : ℕ) (k : Hold) (f : Follows other h g gain loss k) where
    issue_early : k ≡ issue_hold config d h → d.at.issue + gain ≤ b.at.issue + loss + lost config other k.reason
    issue_early is =
        let order : last_issue g ≤ b.at.issue = issue_from other g b.step b.at.issue r.second.0.issue.0 in
        let low : 0 < b.at.issue = issue_low other g b.step b.at.issue r.second.0.issue.0 in
        elim (issue_cases config d h r.good r.timed) [
          | inl c ↦
              let m = follows_as (is ∙ c.is) f in
              let own : step_pool d.step ≡ Some c.tag.pool = tag_pool (step_pool d.step) d.at.station c.tag c.own in
              let one : stations_of other c.tag.pool ≡ 1 = eqb-true (stations_of other c.tag.pool) 1 m.keep in
              let none = none_held other b g c.tag r.second (rw r.same.0 at own) one in
              let w = station_second c.tag b.at.issue h g low r.same.1 none in
              omega (arith, m.early, w, c.before)
          | inr (inl c) ↦
              let m = follows_as (is ∙ c.is) f in
              elim (cases_lt config.width other.width) [
                | inl wide ↦
                    let w = issued_second other (d.at.issue - 1) h g r.second.1 in
                    let reason : k.reason ≡ For Width = ap (λ (l : Hold). l.reason) (is ∙ c.is) in
                    let cost : lost config other k.reason ≡ 1 = rw reason (lost_one config other wide) in
                    omega (arith, m.early, w, order, cost, c.before)
                | inr narrow ↦
                    let above = issue_above other config.width g b.step b.at.issue r.second.1 narrow
                    r.second.0.issue.0 in
                    let wide = width_low config r.good in
                    let w = width_second other config (d.at.issue - 1) (config.width - 1) h g r.timed.1 r.second.1
                    r.same.1 (omega (arith, c.last)) (omega (arith, c.full)) in
                    omega (arith, m.early, w, above, c.before)
              ]
          | inr (inr (inl c)) ↦
              let m = follows_as (is ∙ c.is) f in
              let above = issue_above other other.width g b.step b.at.issue r.second.1 (omega arith)
              r.second.0.issue.0 in
              let w = branch_second h g r.same.1 in
              omega (arith, m.early, w, above, c.before)
          | inr (inr (inr (inl c))) ↦
              let m = follows_as (is ∙ c.is) f in
              let w = issued_second other d.at.issue h g r.second.1 in
              omega (arith, m.early, w, order, c.before)
          | inr (inr (inr (inr c))) ↦
              let m = follows_as (is ∙ c.is) f in
              let w = none_second d.at.issue h g (omega (arith, c.first)) (omega (arith, c.before, c.first)) in
              omega (arith, m.early, w, low, c.before)
        ]

    address_early : is_memory d.step ≡ true → k ≡ address_hold config d h
        → cycle_of d.at.address + gain ≤ cycle_of b.at.address + loss + lost config other k.reason
    address_early memory is =
        let least : IsLeast (can_address g b.step b.at.issue) (cycle_of b.at.address) =
        MatchBool-at_true _ _ (rw r.same.0 at memory) r.second.0.address in
        let can = can_address_is g b.step b.at.issue (cycle_of b.at.address) least.0 in
        elim (address_case config d h r.timed memory) [
          | inl c ↦
              let i = issue_early (is ∙ c.is) in
              omega (arith, i, c.before, can.after_issue)
          | inr (inl c) ↦
              let m = follows_as (is ∙ c.is) f in
              let w = writer_second (register_of (j_of d.step)) None h g r.same.1 in
              let j : source_end g (j_of b.step) ≡ end_of g (register_of (j_of d.step)) =
              rw r.same.0 (source_is g (j_of b.step)) in
              omega (arith, m.early, w, j, c.before, can.after_base)
          | inr (inr c) ↦
              let m = follows_as (is ∙ c.is) f in
              let w = memory_second h g r.same.1 in
              omega (arith, m.early, w, c.before, can.in_order)
        ]

    -- on a unit
    start_early : (unit : UnitId) → step_unit b.step ≡ Some unit → k ≡ start_hold config d h
        → d.at.start + gain ≤ b.at.start + loss + lost config other k.reason
    start_early unit own is =
        let op = operation own r.second.0 in
        let can = op.can in
        let floor = start_above other g b.step unit b.at.issue (cycle_of b.at.address) b.at.start op.start.0 in
        elim (start_case config d h r.good r.timed) [
          | inl c ↦
              let i = issue_early (is ∙ c.is) in
              omega (arith, i, c.before, can.after_issue)
          | inr (inl c) ↦
              let a = address_early c.memory (is ∙ c.is) in
              omega (arith, a, c.before, can.after_address)
          | inr (inr (inl c)) ↦
              let m = follows_as (is ∙ c.is) f in
              let w = conflict_second d (d.at.start - 1) h g r.same.1 in
              let same_access : last_finish (λ s. conflicts s d.step) g ≡ last_finish (λ s. conflicts s b.step) g =
              ap (λ (y : Step). last_finish (λ s. conflicts s y) g) r.same.0 in
              omega (arith, m.early, w, same_access, c.before, floor)
          | inr (inr (inr (inl c))) ↦
              let m = follows_as (is ∙ c.is) f in
              let w = writer_second (just_ended h (j_of d.step) d.at.start) (just_ended h (k_of d.step) d.at.start)
              h g r.same.1 in
              let j = just_end h g (j_of d.step) d.at.start in
              let l = just_end h g (k_of d.step) d.at.start in
              let own_j : source_end g (j_of d.step) ≡ source_end g (j_of b.step) =
              ap (λ (y : Step). source_end g (j_of y)) r.same.0 in
              let own_k : source_end g (k_of d.step) ≡ source_end g (k_of b.step) =
              ap (λ (y : Step). source_end g (k_of y)) r.same.0 in
              omega (arith, m.early, w, j, l, own_j, own_k, c.before, can.after_j, can.after_k)
          | inr (inr (inr (inr c))) ↦
              let m = follows_as (is ∙ c.is) f in
              let e : false ≡ true = m.keep in absurd (cc)
        ]

    -- of the operation, and without one
    unit_finish : (unit : UnitId) → step_unit b.step ≡ Some unit → k ≡ start_hold config d h
        → d.at.finish + (option_of other unit).latency + gain
        ≤ b.at.finish + (option_of config unit).latency + loss + lost config other k.reason
    unit_finish unit own is =
        let s = start_early unit own is in
        let mine : step_unit d.step ≡ Some unit = rw r.same.0 own in
        let da = operation mine r.timed.0 in
        let ba = operation own r.second.0 in
        omega (arith, s, da.finish, ba.finish, ba.can.after_issue, latency_low config unit r.good)

    plain_finish : step_unit b.step ≡ None → k ≡ start_hold config d h
        → d.at.issue + gain ≤ b.at.issue + loss + lost config other k.reason
    plain_finish none is =
        let mine : step_unit d.step ≡ None = rw r.same.0 none in
        let da = at_once mine r.timed.0 in
        issue_early (is ∙ (no_wait config d h (omega (arith, da.start))).is)

    -- up to a cycle before its finish the link has no operation
    unfinished : (to : ℕ) → ((unit : UnitId) → step_unit d.step ≡ Some unit → to < d.at.start)
        → operation_in d k.from to ≡ None
    unfinished to l = elim (cases_unit d.step) [
      | inl none ↦ none_without d k.from to none
      | inr u ↦
          let da = operation u.1 r.timed.0 in
          none_after d k.from to (omega (arith, l u.0 u.1, da.finish, latency_low config u.0 r.good))
    ]

    begun : (unit : UnitId) → step_unit d.step ≡ Some unit → k ≡ start_hold config d h → k.from ≤ d.at.start
    begun unit own is =
        let order : last_issue h ≤ d.at.issue = issue_from config h d.step d.at.issue r.timed.0.issue.0 in
        let da = operation own r.timed.0 in
        let met = held_met config r.good events.Start d h r.timed (omega (arith, da.can.after_issue)) in
        let from : k.from ≡ (start_hold config d h).from = ap (λ (l : Hold). l.from) is in
        omega (arith, met.within)

    finish_early : k ≡ start_hold config d h → IsEarly gain loss k d.at.finish b.at.finish
    finish_early is = elim (cases_unit b.step) [
      | inl none ↦
          let mine : step_unit d.step ≡ None = rw r.same.0 none in
          let da = at_once mine r.timed.0 in
          let ba = at_once none r.second.0 in
          let i = plain_finish none is in
          early_plain config other (operation_in d k.from d.at.finish) gain (loss + lost config other k.reason)
          d.at.finish b.at.finish (none_without d k.from d.at.finish mine) (omega (arith, i, da.finish, ba.finish))
      | inr u ↦
          let mine : step_unit d.step ≡ Some u.0 = rw r.same.0 u.1 in
          let s = unit_finish u.0 u.1 is in
          early_unit config other (operation_in d k.from d.at.finish) gain (loss + lost config other k.reason)
          d.at.finish b.at.finish u.0
          (some_within d k.from d.at.finish u.0 mine (begun u.0 mine is) (omega arith)) (omega arith)
    ]

    -- from the finish to the end, if there is no wait for a bus
    end_after : (unit : UnitId) → step_unit b.step ≡ Some unit → d.at.end ≤ d.at.finish + 1
        → d.at.end + b.at.finish ≤ b.at.end + d.at.finish
    end_after unit own once =
        let mine : step_unit d.step ≡ Some unit = rw r.same.0 own in
        elim (cases_Bool (is_some (step_dest b.step))) [
          | inl dest ↦
              let l = end_low other g b.at.finish b.at.end (result_end r.second.0 dest).0 in
              omega (arith, l, once)
          | inr none ↦
              let de : d.at.end ≡ d.at.finish =
              MatchBool-at_false (IsLeast (can_end config h d.at.finish) d.at.end) _ (rw r.same.0 none)
              (operation mine r.timed.0).end in
              let be : b.at.end ≡ b.at.finish =
              MatchBool-at_false (IsLeast (can_end other g b.at.finish) b.at.end) _ none
              (operation own r.second.0).end in
              omega arith
        ]

    end_early : k ≡ end_hold config d h → IsEarly gain loss k d.at.end b.at.end
    end_early is = elim (end_case config d h r.good r.timed) [
      | inr c ↦
          let m = follows_as (is ∙ c.is) f in
          let e : false ≡ true = m.keep in absurd (cc)
      | inl c ↦ elim (cases_unit b.step) [
        | inl none ↦
            let mine : step_unit d.step ≡ None = rw r.same.0 none in
            let da = at_once mine r.timed.0 in
            let ba = at_once none r.second.0 in
            let i = plain_finish none (is ∙ c.is) in
            early_plain config other (operation_in d k.from d.at.end) gain (loss + lost config other k.reason)
            d.at.end b.at.end (none_without d k.from d.at.end mine) (omega (arith, i, da.end, ba.end))
        | inr u ↦
            let mine : step_unit d.step ≡ Some u.0 = rw r.same.0 u.1 in
            let s = unit_finish u.0 u.1 (is ∙ c.is) in
            let e = end_after u.0 u.1 c.end in
            let within = reach config d h r.good r.timed in
            early_unit config other (operation_in d k.from d.at.end) gain (loss + lost config other k.reason)
            d.at.end b.at.end u.0
            (some_within d k.from d.at.end u.0 mine (begun u.0 mine (is ∙ c.is)) within.finish) (omega (arith, s, e))
      ]
    ]

    issue_plain : k ≡ issue_hold config d h → IsEarly gain loss k d.at.issue b.at.issue
    issue_plain is =
        let i = issue_early is in
        early_plain config other (operation_in d k.from d.at.issue) gain (loss + lost config other k.reason)
        d.at.issue b.at.issue (unfinished d.at.issue (λ unit own. (operation own r.timed.0).can.after_issue))
        (omega arith)

    address_plain : is_memory d.step ≡ true → k ≡ address_hold config d h
        → IsEarly gain loss k (cycle_of d.at.address) (cycle_of b.at.address)
    address_plain memory is =
        let a = address_early memory is in
        early_plain config other (operation_in d k.from (cycle_of d.at.address)) gain
        (loss + lost config other k.reason) (cycle_of d.at.address) (cycle_of b.at.address)
        (unfinished (cycle_of d.at.address) (λ unit own. (operation own r.timed.0).can.after_address)) (omega arith)

  event_early : (gain loss : ℕ) (e : Event) → is_start e ≡ false → last_issue h < cycle_at e d.at
      → (f : Follows other h g gain loss (hold_of e h d (waits_of config h d)))
      → IsEarly gain loss (hold_of e h d (waits_of config h d)) (cycle_at e d.at) (cycle_at e b.at)
  event_early gain loss events.Issue begins l f = issue_plain gain loss (issue_hold config d h) f refl
  event_early gain loss events.Address begins l f =
      address_plain gain loss (address_hold config d h) f
      (has_address config r.good d h r.timed (omega arith)) refl
  event_early gain loss events.Start begins l f = absurd (cc)
  event_early gain loss events.Finish begins l f = finish_early gain loss (start_hold config d h) f refl
  event_early gain loss events.End begins l f = end_early gain loss (end_hold config d h) f refl

module _ (config other : Configuration) (good : IsWithinLimits config) where
  pub all_early : (by : Holder) (h g : List Done) → is_start (event_of by) ≡ false → AreTimed config h
      → AreTimed other g → AreSame h g → binds other (links config by h) ≡ true
      → holder_at by h + sum_by (spent other) (links config by h)
      ≤ second_at by h g + (sum_by (spent config) (links config by h)
      + saved_by_width config other (links config by h))
  all_early by [] g begins timed second same bind = omega arith
  all_early by (d ∷ h) [] begins timed second same bind = absurd (cc)
  all_early by (d ∷ h) (b ∷ g) begins timed second same bind = elim (cases_Bool (passes by h d)) [
    | inl first ↦
        let k = hold_by config by h d in
        let l = link_of config by h d in
        let rest = links config k.by h in
        let two = and_parts (keeps other k.reason) (binds other rest) (rw first at bind) in
        let early = all_early k.by h g (no_start other h d (waits_of config h d) (event_of by) two.0) timed.1 second.1
        same.1 two.1 in
        let f : Follows other h g (sum_by (spent other) rest)
        (sum_by (spent config) rest + saved_by_width config other rest) k =
        record { keep = two.0; early = early } in
        let here = event_early config other d b h g
        (record { good = good; timed = timed; second = second; same = same }) (sum_by (spent other) rest)
        (sum_by (spent config) rest + saved_by_width config other rest) (event_of by) begins
        (later config good h d timed by first) f in
        let gained = sum_by-cons (spent other) l rest in
        let spent_here = sum_by-cons (spent config) l rest in
        let saved = saved_more config other l rest in
        rw first (omega (arith, here, gained, spent_here, saved))
    | inr rest ↦ rw rest (all_early by h g begins timed.1 second.1 same.1 (rw rest at bind))
  ]
