-- One step more: the needs that are counted stay those of the history.
use Rattle.std.proofs.Common.{ℕ, suc, ◌+◌, ◌<◌, ◌≤◌, ◌≡◌, ◌∙◌, cond, arith, refl, ap, sym, inl, inr, List, [], ◌∷◌}
use Rattle.std.proofs.Common.{Option, Some, None, ◌==◌, ◌&&◌, count_by, is_some, length, slice_index_or, slice_set}
use Rattle.std.proofs.lemmas.Bool.{cases_Bool, eqb-true, both_ways, eq-eqb}
use Rattle.std.proofs.lemmas.List.{get_or-set_same, get_or-set_other, get_or-replicate, length-set}
use Rattle.tomex_rvdec.specs.Places.{place_of_pool, place_of_unit}
use Rattle.tomex_rvdec.specs.declared.pool.PoolId.{PoolId}
use Rattle.tomex_rvdec.specs.declared.pool.UnitId.{UnitId}
use Rattle.tomex_rvexec.specs.Steps.{step_pool, step_unit, step_dest, is_in}
use Rattle.tomex_rvexec.specs.declared.step.Step.{Step}
use Rattle.tomex_config.specs.Configuration.{Configuration}
use Rattle.tomex_timing.specs.declared.needs.Needs.{Needs}
use Rattle.tomex_timing.specs.declared.next.Next.{Next}
use Rattle.tomex_timing.specs.declared.need.Need.{Need}
use Rattle.tomex_config.specs.declared.part.Part.{Part}
use Rattle.tomex_config.specs.declared.part.Part.TheVariants.{Stations, Units, Buses, Width}
use Rattle.tomex_timing.specs.declared.waiting.Taken.{Taken}
use Rattle.tomex_timing.specs.declared.need.Waits.{Waits}
use Rattle.tomex_timing.specs.declared.times.Done.{Done}
use Rattle.tomex_timing.specs.Ahead.{Held}
use Rattle.tomex_timing.specs.History.{is_of, last_issue, greatest_end}
use Rattle.tomex_timing.specs.Needs.{AreNeeds, need_of, no_need, peak, stalls, taken_by, waits_for, waits_of}
use Rattle.tomex_timing.specs.Laws.{InReach}
use Rattle.tomex_timing.specs.Waiting.{need_after, needs_after, nothing_needed, stations_after, taken_from, units_after}
use Rattle.tomex_timing.specs.Recent.{facts_of}
use Rattle.tomex_timing.proofs.Summary.{issued_kept}
use Rattle.tomex_timing.proofs.Limits.{unit_is}
use Rattle.tomex_rvdec.proofs.Places.{pool_low, unit_low}
use Rattle.tomex_timing.proofs.NextTimed.{ComesNext, first_issued, next_timed}
use Rattle.tomex_timing.proofs.Orders.{dest_unit, reach}
use Rattle.tomex_timing.proofs.Tests.{cases_unit, operation, unit_of}
use Rattle.tomex_timing.proofs.Width.{issue_from}

-- of what a step takes, what it takes of a part
abbrev pub taken_for : Part → Done → Taken → ℕ
taken_for (Stations pool) d taken = cond (is_in pool (step_pool d.step)) taken.station 0
taken_for (Units unit) d taken = cond (is_of unit (step_unit d.step)) taken.unit 0
taken_for Buses d taken = taken.bus
taken_for Width d taken = taken.width

same_need : (a b : Need) → a.peak ≡ b.peak → a.stalls ≡ b.stalls → a ≡ b
same_need a b e f =
    let g : ℕ → Need = λ m. record { peak = m; stalls = a.stalls } in
    let h : ℕ → Need = λ s. record { peak = b.peak; stalls = s } in
    ap g e ∙ ap h f

no_more : (need : Need) → need ≡ need_after need 0 0
no_more need = same_need need (need_after need 0 0) (omega arith) (omega arith)

-- of the needs of several parts, what one step more makes of one of them
part_after : (i p taken waited : ℕ) (xs : List Need) → i < length xs
    → slice_index_or (slice_set xs p (need_after (slice_index_or xs p no_need) taken waited)) i no_need
    ≡ need_after (slice_index_or xs i no_need) (cond (p == i) taken 0) (cond (p == i) waited 0)
part_after i p taken waited xs there = elim (cases_Bool (p == i)) [
  | inl e ↦
      let same : p ≡ i = eqb-true p i e in
      rw (e, same) (get_or-set_same xs i (need_after (slice_index_or xs i no_need) taken waited) no_need there)
  | inr e ↦
      rw e (get_or-set_other xs p i (need_after (slice_index_or xs p no_need) taken waited) no_need
      (λ (s : i ≡ p). absurd (both_ways _ e (eq-eqb p i (sym s)))) ∙ no_more (slice_index_or xs i no_need))
]

pool_part : (pool : PoolId) (x : Option PoolId) (taken waited : ℕ) (xs : List Need) → length xs ≡ 6
    → slice_index_or (stations_after x taken waited xs) (place_of_pool pool) no_need
    ≡ need_after (slice_index_or xs (place_of_pool pool) no_need) (cond (is_in pool x) taken 0)
    (cond (is_in pool x) waited 0)
pool_part pool None taken waited xs len = no_more (slice_index_or xs (place_of_pool pool) no_need)
pool_part pool (Some p) taken waited xs len =
    part_after (place_of_pool pool) (place_of_pool p) taken waited xs (rw len (pool_low pool))

unit_part : (unit : UnitId) (x : Option UnitId) (taken waited : ℕ) (xs : List Need) → length xs ≡ 5
    → slice_index_or (units_after x taken waited xs) (place_of_unit unit) no_need
    ≡ need_after (slice_index_or xs (place_of_unit unit) no_need) (cond (is_of unit x) taken 0)
    (cond (is_of unit x) waited 0)
unit_part unit None taken waited xs len = no_more (slice_index_or xs (place_of_unit unit) no_need)
unit_part unit (Some p) taken waited xs len =
    part_after (place_of_unit unit) (place_of_unit p) taken waited xs (rw len (unit_low unit))

length-stations_after : (x : Option PoolId) (taken waited : ℕ) (xs : List Need)
    → length (stations_after x taken waited xs) ≡ length xs
length-stations_after None taken waited xs = refl
length-stations_after (Some p) taken waited xs = length-set xs (place_of_pool p) _

length-units_after : (x : Option UnitId) (taken waited : ℕ) (xs : List Need) → length (units_after x taken waited xs)
    ≡ length xs
length-units_after None taken waited xs = refl
length-units_after (Some p) taken waited xs = length-set xs (place_of_unit p) _

module _ {config : Configuration} {h : List Done} {held : Held} {s : Step} {next : Next}
    (c : ComesNext config h held s next) where
  late : last_issue h ≤ next.at.issue
  late = issue_from config h s next.at.issue (next_timed c).issue.0

  units_are : (unit : UnitId) → cond (is_of unit (step_unit s)) next.units 0 ≡ cond (is_of unit (step_unit s))
      (count_by (λ y. is_of unit (step_unit y.step) && y.at.start == next.at.start) h + 1) 0
  units_are unit = elim (cases_Bool (is_of unit (step_unit s))) [
    | inl e ↦
        let of : step_unit s ≡ Some unit = unit_is unit (step_unit s) e in
        let after = (operation of (next_timed c)).can.after_issue in
        let run = rw of at c.by.run in
        rw (e, run.units, c.shown.holds.starts unit next.at.start (omega (arith, c.soon, first_issued c, after))) refl
    | inr e ↦ rw e refl
  ]

  buses_are : (dest : Option ℕ) → step_dest s ≡ dest → next.buses ≡ cond (is_some dest)
      (count_by (λ y. is_some (step_dest y.step) && y.at.end == next.at.end) h + 1) 0
  buses_are None to = elim (cases_unit s) [
    | inl none ↦ let run = rw none at c.by.run in run.buses
    | inr u ↦ let run = rw u.1 at c.by.run in let end = rw to at run.end in end.1
  ]
  buses_are (Some r) to =
      let of = (unit_of s (dest_unit s (rw to refl))).1 in
      let run = rw of at c.by.run in
      let end = rw to at run.end in
      let reaches : InReach (greatest_end h) next.at =
      reach config (record { step = s; at = next.at }) h c.good (next_timed c, c.timed) in
      let after = (operation of (next_timed c)).can.after_issue in
      let later : c.from < next.at.end = omega (arith, c.soon, first_issued c, after, reaches.start) in
      rw (end.1, c.shown.holds.results next.at.end later) refl

  -- what is counted as taken is what is taken
  pub taken_is : (part : Part) → taken_for part (record { step = s; at = next.at }) (taken_from held.latest next)
      ≡ taken_by part h (record { step = s; at = next.at })
  taken_is (Stations pool) = refl
  taken_is (Units unit) = units_are unit
  taken_is Buses = buses_are (step_dest s) refl
  taken_is Width =
      let e : held.latest.issued ≡ count_by (λ d. d.at.issue == last_issue h) h = c.shown.kept.issued in
      let k : cond (next.at.issue == last_issue h) (held.latest.issued + 1) 1
      ≡ suc (count_by (λ x. x.at.issue == next.at.issue) h) =
      issued_kept config h next.at.issue held.latest.issued c.timed late e in
      let s : suc (count_by (λ x. x.at.issue == next.at.issue) h) ≡ count_by (λ x. x.at.issue == next.at.issue) h + 1 =
      omega arith in
      rw c.shown.kept.issue (k ∙ s)

part_more : (part : Part) (d : Done) (needs : Needs) (waits : Waits) (taken : Taken) → length needs.stations ≡ 6
    → length needs.units ≡ 5
    → need_of (needs_after (facts_of d.step) waits taken d.at needs) part ≡ need_after (need_of needs part)
    (taken_for part d taken) (waits_for part d waits)
part_more (Stations pool) d needs waits taken p k =
    pool_part pool (step_pool d.step) taken.station waits.station needs.stations p
part_more (Units unit) d needs waits taken p k = unit_part unit (step_unit d.step) taken.unit waits.unit needs.units k
part_more Buses d needs waits taken p k = refl
part_more Width d needs waits taken p k = refl

pub needs_more : (config : Configuration) (h : List Done) (d : Done) (needs : Needs) (waits : Waits) (taken : Taken)
    → AreNeeds config h needs → waits ≡ waits_of config h d
    → ((part : Part) → taken_for part d taken ≡ taken_by part h d)
    → AreNeeds config (d ∷ h) (needs_after (facts_of d.step) waits taken d.at needs)
needs_more config h d needs waits taken are w t = record {
  parts = λ part. part_more part d needs waits taken are.pools are.kinds ∙ rw (are.parts part, t part, w) refl;
  branch = rw (w, are.branch) refl;
  operand = rw (w, are.operand) refl;
  address = rw (w, are.address) refl;
  memory = rw (w, are.memory) refl;
  last_issue = refl;
  total = rw are.total refl;
  pools = length-stations_after (step_pool d.step) taken.station waits.station needs.stations ∙ are.pools;
  kinds = length-units_after (step_unit d.step) taken.unit waits.unit needs.units ∙ are.kinds;
}

pub needs_none : (config : Configuration) → AreNeeds config [] nothing_needed
needs_none config = record {
  parts = none;
  branch = refl;
  operand = refl;
  address = refl;
  memory = refl;
  last_issue = refl;
  total = refl;
  pools = refl;
  kinds = refl;
}
  where
    none : (part : Part) → need_of nothing_needed part ≡ record { peak = peak part []; stalls = stalls config part [] }
    none (Stations pool) = get_or-replicate 6 (place_of_pool pool) no_need no_need (pool_low pool)
    none (Units unit) = get_or-replicate 5 (place_of_unit unit) no_need no_need (unit_low unit)
    none Buses = refl
    none Width = refl
