-- One step more: what is counted of its demands is what its needs say of them.
use Rattle.std.proofs.Common.{ℕ, ◌+◌, ◌∙◌, ◌≡◌, [], ap, arith, refl, sym, true, false, List, Option, Some, None, map}
use Rattle.std.proofs.Common.{take, zero, suc, ◌==◌, max, nat_lt, not, ◌||◌, slice_index_or}
use Rattle.std.proofs.Math.Bool.{or-false, or-true}
use Rattle.std.proofs.Math.ListN.{get_or-map, set}
use Rattle.std.proofs.lemmas.Bool.{lt-ltb, ne_eqb}
use Rattle.std.proofs.lemmas.List.{map-set}
use Rattle.tomex_rvdec.specs.Places.{place_of_pool, place_of_unit}
use Rattle.tomex_rvdec.specs.declared.pool.PoolId.{PoolId}
use Rattle.tomex_rvdec.specs.declared.pool.UnitId.{UnitId}
use Rattle.tomex_rvexec.specs.declared.step.Step.{Step}
use Rattle.tomex_config.specs.Configuration.{Configuration}
use Rattle.tomex_timing.specs.declared.demands.Demands.{Demands}
use Rattle.tomex_timing.specs.declared.needs.Needs.{Needs}
use Rattle.tomex_timing.specs.declared.next.Next.{Next}
use Rattle.tomex_timing.specs.declared.need.Need.{Need}
use Rattle.tomex_config.specs.declared.part.Part.{Part}
use Rattle.tomex_config.specs.declared.part.Part.TheVariants.{Stations, Units, Buses, Width}
use Rattle.tomex_timing.specs.declared.need.Waits.{Waits}
use Rattle.tomex_timing.specs.declared.times.Done.{Done}
use Rattle.tomex_timing.specs.declared.times.Times.{Times}
use Rattle.tomex_timing.specs.declared.waiting.Taken.{Taken}
use Rattle.tomex_timing.specs.declared.recent.Facts.{Facts}
use Rattle.tomex_timing.specs.Ahead.{Held, IsHeldAfter}
use Rattle.tomex_timing.specs.Demands.{AreDemands, demand_after, demand_from, demand_of, demands_after, demands_of}
use Rattle.tomex_timing.specs.Demands.{no_demand, nothing_asked, stations_asked, units_asked, with_total}
use Rattle.tomex_timing.specs.Needs.{no_need, peak, stalls}
use Rattle.tomex_timing.specs.History.{greatest_end}
use Rattle.tomex_timing.specs.Search.{history}
use Rattle.tomex_timing.specs.Waiting.{need_after, needs_after, nothing_needed, stations_after, units_after, taken_from}
use Rattle.tomex_timing.specs.Waiting.{waits_by}
use Rattle.tomex_timing.proofs.Needed.{needs_none}
use Rattle.tomex_timing.proofs.Summary.{IsShown}
use Rattle.tomex_timing.proofs.Turns.{IsTurn, held_turn, needs_turn}

-- some wait if some waited before, or the step does
waits_more : (w s : ℕ) → not ((w + s) == 0) ≡ (not (s == 0) || nat_lt 0 w)
waits_more zero s = let e : 0 + s ≡ s = omega arith in rw e (sym (or-false (not (s == 0))))
waits_more (suc w) s =
    let some : (suc w + s == 0) ≡ false = ne_eqb (suc w + s) 0 (λ (e : suc w + s ≡ 0). absurd (omega arith)) in
    let waits : nat_lt 0 (suc w) ≡ true = lt-ltb 0 (suc w) (omega arith) in
    rw (some, waits) (sym (or-true (not (s == 0))))

demand_more : (need : Need) (taken waited : ℕ)
    → demand_from (need_after need taken waited) ≡ demand_after (demand_from need) taken waited
demand_more need taken waited = rw waits_more refl

part_asked : (needs : List Need) (place taken waited : ℕ)
    → map demand_from (set needs place (need_after (slice_index_or needs place no_need) taken waited))
    ≡ set (map demand_from needs) place
    (demand_after (slice_index_or (map demand_from needs) place no_demand) taken waited)
part_asked needs place taken waited =
    map-set demand_from needs place (need_after (slice_index_or needs place no_need) taken waited)
    ∙ ap (set (map demand_from needs) place) (demand_more (slice_index_or needs place no_need) taken waited
    ∙ ap (λ d. demand_after d taken waited) (sym (get_or-map demand_from needs place no_need)))

stations_more : (pool : Option PoolId) (taken waited : ℕ) (needs : List Need)
    → map demand_from (stations_after pool taken waited needs)
    ≡ stations_asked pool taken waited (map demand_from needs)
stations_more None taken waited needs = refl
stations_more (Some pool) taken waited needs = part_asked needs (place_of_pool pool) taken waited

units_more : (unit : Option UnitId) (taken waited : ℕ) (needs : List Need)
    → map demand_from (units_after unit taken waited needs) ≡ units_asked unit taken waited (map demand_from needs)
units_more None taken waited needs = refl
units_more (Some unit) taken waited needs = part_asked needs (place_of_unit unit) taken waited

pub demands_more : (f : Facts) (waits : Waits) (taken : Taken) (at : Times) (needs : Needs)
    → demands_of (needs_after f waits taken at needs)
    ≡ demands_after f waits taken (max at.end needs.total) (demands_of needs)
demands_more f waits taken at needs =
    rw (
      stations_more f.pool taken.station waits.station needs.stations,
      units_more f.unit taken.unit waits.unit needs.units,
      demand_more needs.buses taken.bus waits.bus,
      demand_more needs.width taken.width waits.width,
    ) refl

pub demands_none : (config : Configuration) → AreDemands config [] nothing_asked
demands_none config = record { needs = nothing_needed; are = needs_none config; same = refl }

-- the demands of a run's steps so far are those that are noted, with the greatest end so far as the total
module _ {config : Configuration} {steps : List Step} {i : ℕ} {x : Step} {f : Facts} {held : Held} {next : Next}
    (turn : IsTurn config steps i x f held next) where
  pub held_demands : (demands : Demands)
      → AreDemands config (history config (take i steps)) (with_total held.latest.end demands)
      → AreDemands config (history config (take (i + 1) steps))
      (with_total (max next.at.end held.latest.end) (demands_after f (waits_by held.latest next.marks next.at)
      (taken_from held.latest next) demands.total demands))
  held_demands demands before =
      let waits = waits_by held.latest next.marks next.at in
      let takes = taken_from held.latest next in
      let total : held.latest.end ≡ before.needs.total = ap (λ (d : Demands). d.total) before.same in
      record {
        needs = needs_after f waits takes next.at before.needs;
        are = needs_turn turn refl refl before.are;
        same = ap (λ (d : Demands). demands_after f waits takes (max next.at.end held.latest.end) d) before.same
            ∙ (ap (λ (n : ℕ). demands_after f waits takes (max next.at.end n) (demands_of before.needs)) total
            ∙ sym (demands_more f waits takes next.at before.needs));
      }

  -- so what a step leaves shows the steps up to it
  pub asked_turn : {demands : Demands} {after : Held} {noted : Demands}
      → AreDemands config (history config (take i steps)) (with_total held.latest.end demands)
      → IsHeldAfter f next.at held after → noted ≡ demands_after f (waits_by held.latest next.marks next.at)
      (taken_from held.latest next) demands.total demands → IsShown (history config (take (i + 1) steps)) after
      × AreDemands config (history config (take (i + 1) steps)) (with_total after.latest.end noted)
  asked_turn {demands} are is_after noted =
      (held_turn turn is_after, rw (noted, is_after.latest) (held_demands demands are))

-- the demand for a part is its peak, and whether it has stalls
pub demand_is : {config : Configuration} {h : List Done} {demands : Demands} (part : Part) → AreDemands config h demands
    → demand_of demands part ≡ record { peak = peak part h; waits = not (stalls config part h == 0) }
demand_is (Stations pool) is =
    rw is.same (get_or-map demand_from is.needs.stations (place_of_pool pool) no_need
    ∙ ap demand_from (is.are.parts (Stations pool)))
demand_is (Units unit) is =
    rw is.same (get_or-map demand_from is.needs.units (place_of_unit unit) no_need
    ∙ ap demand_from (is.are.parts (Units unit)))
demand_is Buses is = rw is.same (ap demand_from (is.are.parts Buses))
demand_is Width is = rw is.same (ap demand_from (is.are.parts Width))

pub demands_total : {config : Configuration} {h : List Done} {demands : Demands} → AreDemands config h demands
    → demands.total ≡ greatest_end h
demands_total is = rw is.same is.are.total
