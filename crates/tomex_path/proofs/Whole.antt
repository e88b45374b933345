-- The links of a path follow each other without a gap, from the first cycle up to the last end.
use Rattle.std.proofs.Common.{ℕ, ◌-◌, ◌<◌, ◌≤◌, ◌≡◌, ◌∙◌, true, arith, refl, sym, subst, inl, inr}
use Rattle.std.proofs.Common.{List, [], ◌∷◌, Option, Some, None, ◌==◌, ◌&&◌, ◌||◌, is_some}
use Rattle.std.proofs.lemmas.Bool.{and_parts, cases_Bool, cases_lt, eqb-true, lt-ltb, le-ltb, ltb-true}
use Rattle.std.proofs.lemmas.Bool.{MatchBool-at_false}
use Rattle.tomex_rvdec.specs.declared.pool.PoolId.{PoolId}
use Rattle.tomex_rvdec.specs.declared.pool.PoolId.TheVariants as pools
use Rattle.tomex_rvdec.specs.declared.pool.UnitId.{UnitId}
use Rattle.tomex_rvexec.specs.declared.step.ByteRange.{ByteRange}
use Rattle.tomex_rvexec.specs.Steps.{bytes_of, is_in, is_number, is_store, shares_byte, step_dest, step_pool, step_unit}
use Rattle.tomex_rvexec.proofs.Fields.{bytes_of_memory, unit_with_pool}
use Rattle.tomex_config.specs.Configuration.{Configuration, IsWithinLimits}
use Rattle.tomex_timing.specs.declared.times.Done.{Done}
use Rattle.tomex_timing.specs.History.{cycle_of, greatest_end, is_memory, is_of, last_issue}
use Rattle.tomex_timing.specs.Laws.{InReach}
use Rattle.tomex_timing.specs.Needs.{waits_of}
use Rattle.tomex_timing.specs.Recurrence.{AreTimed, IsLeast, can_address}
use Rattle.tomex_timing.proofs.AfterEnd.{last_issue_by}
use Rattle.tomex_timing.proofs.Bound.{timed_by}
use Rattle.tomex_timing.proofs.Orders.{address_rises, reach, result_later, start_after, start_later}
use Rattle.tomex_path.specs.declared.event.Event.{Event}
use Rattle.tomex_path.specs.declared.event.Event.TheVariants as events
use Rattle.tomex_path.specs.declared.event.Holder.{Holder}
use Rattle.tomex_path.specs.declared.event.Holder.TheVariants as holders
use Rattle.tomex_path.specs.declared.link.Link.{Link}
use Rattle.tomex_path.specs.Holds.{cycle_at, event_of, hold_of, is_dest, passes}
use Rattle.tomex_path.specs.Path.{hold_by, links}
use Rattle.tomex_path.proofs.Addresses.{address_case, end_case}
use Rattle.tomex_path.proofs.Cases.{address_hold, end_hold, issue_hold, start_hold}
use Rattle.tomex_path.proofs.Chain.{IsMet, holder_at, met_as}
use Rattle.tomex_path.proofs.Issues.{issued}
use Rattle.tomex_path.proofs.StartCases.{start_case}
use Rattle.tomex_path.proofs.StationEnds.{issue_cases}

some_pool : (pool : PoolId) (x : Option PoolId) → is_in pool x ≡ true → is_some x ≡ true
some_pool pool None e = absurd (cc)
some_pool pool (Some p) e = refl

some_unit : (unit : UnitId) (x : Option UnitId) → is_of unit x ≡ true → is_some x ≡ true
some_unit unit None e = absurd (cc)
some_unit unit (Some u) e = refl

some_dest : (a dest : Option ℕ) → is_dest a dest ≡ true → is_some dest ≡ true
some_dest None dest e = absurd (cc)
some_dest (Some r) None e = absurd (cc)
some_dest (Some r) (Some n) e = refl

either_dest : (a b dest : Option ℕ) → (is_dest a dest || is_dest b dest) ≡ true → is_some dest ≡ true
either_dest a b dest e = elim (cases_Bool (is_dest a dest)) [
  | inl i ↦ some_dest a dest i
  | inr i ↦ some_dest b dest (rw i at e)
]

some_bytes : (a b : Option ByteRange) → shares_byte a b ≡ true → is_some a ≡ true
some_bytes None b e = absurd (cc)
some_bytes (Some a) b e = refl

memory_pool : (pool : Option PoolId) → (is_in pools.Load pool || is_in pools.Store pool) ≡ true → is_some pool ≡ true
memory_pool None e = absurd (cc)
memory_pool (Some p) e = refl

-- each link from the last one back has at least one cycle, and ends in the cycle before the one after it begins
abbrev pub IsLinked : ℕ → List Link → Type 0
IsLinked n [] = n ≡ 0
IsLinked n (l ∷ ls) = (l.to ≡ n) × (0 < l.from) × (l.from ≤ l.to) × IsLinked (l.from - 1) ls

module _ (config : Configuration) (good : IsWithinLimits config) where
  -- an event that holds another comes after the previous issue
  module _ (o : List Done) (x : Done) (timed : AreTimed config (x ∷ o)) where
    started : is_some (step_pool x.step) ≡ true → x.at.issue < x.at.start
    started some = (start_later config x o timed.0 (unit_with_pool x.step ∙ some)).0

    result : is_some (step_dest x.step) ≡ true → last_issue o < x.at.end
    result dest =
        let order : last_issue o ≤ x.at.issue = issued config good x o timed in
        let within : InReach (greatest_end o) x.at = reach config x o good timed in
        let s = start_after config o x.step x.at timed.0 in
        let r : x.at.finish < x.at.end = result_later config x o timed.0 dest in
        omega (arith, within.order)

    pub later : (by : Holder) → passes by o x ≡ true → last_issue o < cycle_at (event_of by) x.at
    later holders.Last e =
        let l : last_issue o ≤ greatest_end o = last_issue_by (greatest_end o) o (timed_by config o good timed.1) in
        let k : greatest_end o < x.at.end = ltb-true (greatest_end o) x.at.end e in
        omega arith
    later (holders.FirstIssue t) e =
        let two = and_parts (x.at.issue == t) _ e in
        let k : last_issue o < t = ltb-true (last_issue o) t two.1 in
        let f : x.at.issue ≡ t = eqb-true x.at.issue t two.0 in
        omega arith
    later holders.Branch e =
        let order : last_issue o ≤ x.at.issue = issued config good x o timed in
        let within : InReach (greatest_end o) x.at = reach config x o good timed in
        let s = started (some_pool pools.Bru (step_pool x.step) e) in
        omega (arith, within.order)
    later (holders.Station tag) e =
        let order : last_issue o ≤ x.at.issue = issued config good x o timed in
        let within : InReach (greatest_end o) x.at = reach config x o good timed in
        let two = and_parts (is_in tag.pool (step_pool x.step)) (is_number x.at.station tag.number) e in
        let s = started (some_pool tag.pool (step_pool x.step) two.0) in
        omega (arith, within.start)
    later (holders.Writer a b) e = result (either_dest a b (step_dest x.step) e)
    later holders.Memory e =
        let order : last_issue o ≤ x.at.issue = issued config good x o timed in
        let address = address_rises config x o timed.0 e in
        omega (arith, address.0)
    later (holders.Conflict a t) e =
        let order : last_issue o ≤ x.at.issue = issued config good x o timed in
        let within : InReach (greatest_end o) x.at = reach config x o good timed in
        let two = and_parts (shares_byte (bytes_of x.step) a.bytes && (is_store x.step || a.is_store))
        (x.at.finish == t) e in
        let one = and_parts (shares_byte (bytes_of x.step) a.bytes) (is_store x.step || a.is_store) two.0 in
        let m : (is_in pools.Load (step_pool x.step) || is_store x.step) ≡ true =
        sym (bytes_of_memory x.step) ∙ some_bytes (bytes_of x.step) a.bytes one.0 in
        let s = started (memory_pool (step_pool x.step) m) in
        omega (arith, within.order)
    later (holders.Unit unit t) e =
        let order : last_issue o ≤ x.at.issue = issued config good x o timed in
        let two = and_parts (is_of unit (step_unit x.step)) (x.at.start == t) e in
        let s = start_later config x o timed.0 (some_unit unit (step_unit x.step) two.0) in
        omega (arith, s.0)
    later (holders.Bus t) e = result (and_parts (is_some (step_dest x.step)) (x.at.end == t) e).0

  issue_held : (d : Done) (older : List Done) (t : ℕ) → AreTimed config (d ∷ older) → last_issue older < t
      → d.at.issue ≤ t → IsMet older (issue_hold config d older) t
  issue_held d older t timed later after = elim (issue_cases config d older good timed) [
    | inl c ↦ met_as c.is (record { before = c.before; within = after })
    | inr (inl c) ↦ met_as c.is (record { before = c.before; within = after })
    | inr (inr (inl c)) ↦ met_as c.is (record { before = c.before; within = after })
    | inr (inr (inr (inl c))) ↦
        met_as c.is (record { before = omega (arith, c.before); within = omega (arith, c.last) })
    | inr (inr (inr (inr c))) ↦ met_as c.is (record { before = c.before; within = after })
  ]

  address_held : (d : Done) (older : List Done) (t : ℕ) → AreTimed config (d ∷ older) → is_memory d.step ≡ true
      → IsMet older (issue_hold config d older) t → cycle_of d.at.address ≤ t
      → IsMet older (address_hold config d older) t
  address_held d older t timed memory issue after = elim (address_case config d older timed memory) [
    | inl c ↦ met_as c.is issue
    | inr (inl c) ↦ met_as c.is (record { before = c.before; within = after })
    | inr (inr c) ↦ met_as c.is (record { before = c.before; within = after })
  ]

  start_held : (d : Done) (older : List Done) (t : ℕ) → AreTimed config (d ∷ older) → last_issue older < t
      → d.at.start ≤ t → IsMet older (start_hold config d older) t
  start_held d older t timed later after =
      let s : d.at.issue ≤ d.at.start = start_after config older d.step d.at timed.0 in
      let issue = issue_held d older t timed later (omega arith) in
      elim (start_case config d older good timed) [
        | inl c ↦ met_as c.is issue
        | inr (inl c) ↦ met_as c.is (address_held d older t timed c.memory issue (omega (arith, c.before)))
        | inr (inr (inl c)) ↦ met_as c.is (record { before = c.before; within = after })
        | inr (inr (inr (inl c))) ↦ met_as c.is (record { before = c.before; within = after })
        | inr (inr (inr (inr c))) ↦ met_as c.is (record { before = c.before; within = after })
      ]

  end_held : (d : Done) (older : List Done) → AreTimed config (d ∷ older) → last_issue older < d.at.end
      → IsMet older (end_hold config d older) d.at.end
  end_held d older timed later =
      let within : InReach (greatest_end older) d.at = reach config d older good timed in
      elim (end_case config d older good timed) [
        | inl c ↦ met_as c.is (start_held d older d.at.end timed later within.start)
        | inr c ↦ met_as c.is (record { before = c.before; within = omega arith })
      ]

  -- only loads and stores have an address
  pub has_address : (d : Done) (older : List Done) → AreTimed config (d ∷ older) → 0 < cycle_of d.at.address
      → is_memory d.step ≡ true
  has_address d older timed some = elim (cases_Bool (is_memory d.step)) [
    | inl e ↦ e
    | inr e ↦
        let none : d.at.address ≡ None =
        MatchBool-at_false (IsLeast (can_address older d.step d.at.issue) (cycle_of d.at.address)) _ e
        timed.0.address in
        let z : cycle_of d.at.address ≡ 0 = rw none refl in
        absurd (omega arith)
  ]

  pub held_met : (e : Event) (d : Done) (older : List Done) → AreTimed config (d ∷ older)
      → last_issue older < cycle_at e d.at
      → IsMet older (hold_of e older d (waits_of config older d)) (cycle_at e d.at)
  held_met events.Issue d older timed l = issue_held d older d.at.issue timed l (omega arith)
  held_met events.Address d older timed l =
      let m = has_address d older timed (omega arith) in
      let a = address_rises config d older timed.0 m in
      address_held d older (cycle_of d.at.address) timed m
      (issue_held d older (cycle_of d.at.address) timed l (omega (arith, a.0))) (omega arith)
  held_met events.Start d older timed l = start_held d older d.at.start timed l (omega arith)
  held_met events.Finish d older timed l =
      let within : InReach (greatest_end older) d.at = reach config d older good timed in
      start_held d older d.at.finish timed l within.order
  held_met events.End d older timed l = end_held d older timed l

  linked : (by : Holder) (h : List Done) → AreTimed config h → IsLinked (holder_at by h) (links config by h)
  linked by [] timed = refl
  linked by (d ∷ older) timed = elim (cases_Bool (passes by older d)) [
    | inl first ↦
        let k = hold_by config by older d in
        let m : IsMet older (hold_by config by older d) (cycle_at (event_of by) d.at) =
        held_met (event_of by) d older timed (later older d timed by first) in
        let f : holder_at k.by older ≡ k.from - 1 = omega (arith, m.before) in
        rw first (
          refl,
          omega (arith, m.before),
          m.within,
          subst (λ n. IsLinked n (links config k.by older)) f (linked k.by older timed.1),
        )
    | inr other ↦ rw other (linked by older timed.1)
  ]

  pub last_end : (h : List Done) → holder_at holders.Last h ≡ greatest_end h
  last_end [] = refl
  last_end (d ∷ older) = elim (cases_lt (greatest_end older) d.at.end) [
    | inl l ↦ rw (lt-ltb (greatest_end older) d.at.end l) (omega arith)
    | inr l ↦
        let e : holder_at holders.Last older ≡ greatest_end older = last_end older in
        rw (le-ltb (greatest_end older) d.at.end l) (omega arith)
  ]

  -- from the last end back
  pub path_linked : (h : List Done) → AreTimed config h → IsLinked (greatest_end h) (links config holders.Last h)
  path_linked h timed =
      subst (λ n. IsLinked n (links config holders.Last h)) (last_end h) (linked holders.Last h timed)
