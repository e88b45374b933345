-- An event is held by the start of another step only if it waits for a unit.
use Rattle.std.proofs.Common.{◌+◌, ◌≡◌, Bool, true, false, refl, List, Option, Some, None}
use Rattle.std.specs.Prelude.{◌==◌, nat_lt, if◌then◌else◌}
use Rattle.tomex_rvdec.specs.declared.pool.UnitId.{UnitId}
use Rattle.tomex_rvexec.specs.Steps.{j_of, step_unit}
use Rattle.tomex_config.specs.Configuration.{Configuration}
use Rattle.tomex_timing.specs.declared.need.Waits.{Waits}
use Rattle.tomex_timing.specs.declared.tables.Tag.{Tag}
use Rattle.tomex_timing.specs.declared.times.Done.{Done}
use Rattle.tomex_timing.specs.History.{cycle_of, source_end}
use Rattle.tomex_timing.specs.Tables.{tag_of}
use Rattle.tomex_path.specs.declared.event.Event.{Event}
use Rattle.tomex_path.specs.declared.event.Event.TheVariants as events
use Rattle.tomex_path.specs.declared.hold.Hold.{Hold}
use Rattle.tomex_path.specs.Bound.{keeps}
use Rattle.tomex_path.specs.Holds.{event_of, hold_address, hold_end, hold_issue, hold_of, hold_operand, hold_start}
use Rattle.tomex_path.specs.Holds.{hold_station, hold_unit}

abbrev pub is_start : Event → Bool
is_start events.Start = true
is_start e = false

module _ (other : Configuration) where
  -- a wait that the machine keeps is for no start
  abbrev pub NoStart : Hold → Type 0
  NoStart k = keeps other k.reason ≡ true → is_start (event_of k.by) ≡ false

  either : (b : Bool) (k l : Hold) → NoStart k → NoStart l → NoStart (if b then k else l)
  either true k l x y = x
  either false k l x y = y

  module _ (older : List Done) (d : Done) (w : Waits) where
    station_start : (tag : Option Tag) → NoStart (hold_station older d tag)
    station_start None = λ e. refl
    station_start (Some tag) = λ e. refl

    issue_start : NoStart (hold_issue older d w)
    issue_start =
        either (nat_lt 0 w.station) _ _ (station_start (tag_of d))
        (either (nat_lt 0 w.width) _ _ (λ e. refl)
        (either (nat_lt 0 w.branch) _ _ (λ e. refl) (λ e. refl)))

    address_start : NoStart (hold_address older d w)
    address_start =
        either (d.at.issue + 1 == cycle_of d.at.address) _ _ issue_start
        (either (source_end older (j_of d.step) + 1 == cycle_of d.at.address) _ _ (λ e. refl) (λ e. refl))

    operand_start : NoStart (hold_operand older d w)
    operand_start = either (nat_lt 0 w.operand) _ _ (λ e. refl) issue_start

    unit_start : (unit : Option UnitId) → NoStart (hold_unit older d w unit)
    unit_start None = issue_start
    unit_start (Some unit) = λ e. absurd (cc)

    start_start : NoStart (hold_start older d w)
    start_start =
        either (nat_lt 0 w.unit) _ _ (unit_start (step_unit d.step))
        (either (nat_lt 0 w.memory) _ _ (λ e. refl)
        (either (nat_lt 0 w.address) _ _ address_start operand_start))

    end_start : NoStart (hold_end older d w)
    end_start = either (nat_lt 0 w.bus) _ _ (λ e. refl) start_start

    pub no_start : (e : Event) → NoStart (hold_of e older d w)
    no_start events.Issue = issue_start
    no_start events.Address = address_start
    no_start events.Start = start_start
    no_start events.Finish = start_start
    no_start events.End = end_start
