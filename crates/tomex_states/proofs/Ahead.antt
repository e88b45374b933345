-- What is held and shows a history gives a next step the times that an exact record of it gives: these depend on no
-- cycle that is over.
use Rattle.std.proofs.Common.{ℕ, ◌+◌, ◌-◌, ◌<◌, ◌≤◌, ◌≡◌, ◌∙◌, Bool, true, false, arith, refl, sym, ap, List, Option}
use Rattle.std.proofs.Common.{Some, None, cond, max}
use Rattle.std.specs.Prelude.{IfSome, MatchOption}
use Rattle.tomex_rvdec.specs.declared.pool.PoolId.{PoolId}
use Rattle.tomex_rvdec.specs.declared.pool.UnitId.{UnitId}
use Rattle.tomex_config.specs.Configuration.{Configuration, stations_of}
use Rattle.tomex_reservations.specs.Reservations.{IsFreeFirst, Reserved}
use Rattle.tomex_timing.specs.declared.accesses.Access.{Access}
use Rattle.tomex_timing.specs.declared.next.Next.{Next}
use Rattle.tomex_timing.specs.declared.recent.Facts.{Facts}
use Rattle.tomex_timing.specs.declared.times.Done.{Done}
use Rattle.tomex_timing.specs.Ahead.{Held, IsIdle, IsNextBy, RunsOn, TakesStation, end_in}
use Rattle.tomex_timing.specs.History.{cycle_of, last_address}
use Rattle.tomex_timing.specs.Issue.{first_issue}
use Rattle.tomex_timing.specs.Recent.{AreInRange, is_memory_pool}
use Rattle.tomex_states.specs.States.{ShowsLatest}
use Rattle.tomex_states.proofs.Exact.{exact_kept, exact_of}

-- a step issues no earlier than it may
issue_begun : (config : Configuration) (ends : List ℕ) (pool : Option PoolId) (from issue : ℕ) (station : Option ℕ)
    → TakesStation config ends pool from issue station → from ≤ issue
issue_begun config ends None from issue station takes = omega (arith, takes.0)
issue_begun config ends (Some p) from issue station takes =
    let first : IsFreeFirst ends p (stations_of config p) from issue takes.0 = takes.2 in
    first.begun

address_near : (memory : Bool) (n issue base base' last last' : ℕ) (a : Option ℕ) → n ≤ issue → base - n ≡ base' - n
    → last - n ≡ last' - n → a ≡ cond memory (Some (max (max issue base) last + 1)) None
    → a ≡ cond memory (Some (max (max issue base') last' + 1)) None
address_near true n issue base base' last last' a l e f is =
    let same : max (max issue base) last + 1 ≡ max (max issue base') last' + 1 = omega arith in
    is ∙ ap (λ t. Some t) same
address_near false n issue base base' last last' a l e f is = is

run_near : (config : Configuration) (table : Reserved) (accesses : List Access) (f : Facts) (n j j' k k' : ℕ)
    (next : Next) (unit : Option UnitId) → n ≤ next.at.issue → j - n ≡ j' - n → k - n ≡ k' - n
    → MatchOption unit (IsIdle next) (RunsOn config table accesses f j k next)
    → MatchOption unit (IsIdle next) (RunsOn config table accesses f j' k' next)
run_near config table accesses f n j j' k k' next None l e g run = run
run_near config table accesses f n j j' k k' next (Some u) l e g run = record {
  operands = run.operands ∙ operands_same next.at.issue l;
  ready = run.ready ∙ ready_same next.at.issue (cycle_of next.at.address) l;
  clear = run.clear;
  start = run.start;
  finish = run.finish;
  end = run.end;
  units = run.units;
}
  where
    operands_same : (issue : ℕ) → n ≤ issue → max issue (max j k) + 1 ≡ max issue (max j' k') + 1
    operands_same issue l = omega arith

    ready_same : (issue address : ℕ) → n ≤ issue
        → max (max issue address) (max j k) + 1 ≡ max (max issue address) (max j' k') + 1
    ready_same issue address l = omega arith

module _ {config : Configuration} {h : List Done} {held : Held} {f : Facts} {next : Next}
    (shown : ShowsLatest config h held.latest) (range : AreInRange f) (by : IsNextBy config held f next) where
  -- the exact record of the history, with what else is held
  abbrev pub exact : Held
  exact = record held { latest = exact_of h }

  pub from_first : next.marks.from ≡ first_issue config h
  from_first = by.from ∙ shown.first

  pub not_early : first_issue config h ≤ next.at.issue
  not_early =
      let l = issue_begun config held.ends f.pool next.marks.from next.at.issue next.at.station by.issue in
      omega (arith, from_first)

  end_near : (register : Option ℕ) → IfSome register (λ r. r < 32) → end_in held.latest.ends register
      - first_issue config h ≡ end_in (exact_of h).ends register - first_issue config h
  end_near None small = refl
  end_near (Some r) small =
      shown.ends r small ∙ ap (λ t. t - first_issue config h) (sym ((exact_kept h).ends r small))

  pub by_exact : IsNextBy config exact f next
  by_exact = record {
    from = from_first;
    issue = by.issue;
    address = address_near (is_memory_pool f.pool) (first_issue config h) next.at.issue
        (end_in held.latest.ends f.j) (end_in (exact_of h).ends f.j) held.latest.address (last_address h)
        next.at.address not_early (end_near f.j range.j) shown.address by.address;
    run = run_near config held.table held.accesses f (first_issue config h) (end_in held.latest.ends f.j)
        (end_in (exact_of h).ends f.j) (end_in held.latest.ends f.k) (end_in (exact_of h).ends f.k) next f.unit
        not_early (end_near f.j range.j) (end_near f.k range.k) by.run;
  }
