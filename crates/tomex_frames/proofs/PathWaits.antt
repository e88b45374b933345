-- What a step's row says in the cycle before its link.
use Rattle.std.proofs.Common.{ℕ, ◌+◌, ◌-◌, ◌<◌, ◌≤◌, ◌≡◌, ◌∙◌, ap, true, false, arith, refl, inl, inr}
use Rattle.std.proofs.Common.{List, Option, Some, None, ◌==◌}
use Rattle.std.proofs.lemmas.Bool.{cases_Bool, cases_lt, eqb-false, eqb-true, le-ltb, lt-ltb, ne_eqb}
use Rattle.tomex_rvdec.specs.declared.pool.UnitId.{UnitId}
use Rattle.tomex_rvexec.specs.Steps.{is_number, j_of, step_unit}
use Rattle.tomex_config.specs.Configuration.{Configuration}
use Rattle.tomex_timing.specs.declared.need.Waits.{Waits}
use Rattle.tomex_timing.specs.declared.tables.Tag.{Tag}
use Rattle.tomex_timing.specs.declared.times.Done.{Done}
use Rattle.tomex_timing.specs.History.{cycle_of, source_end}
use Rattle.tomex_timing.specs.Needs.{lacks_operand, waits_of}
use Rattle.tomex_timing.specs.Tables.{tag_of}
use Rattle.tomex_path.specs.declared.event.Event.{Event}
use Rattle.tomex_path.specs.declared.event.Event.TheVariants as events
use Rattle.tomex_path.specs.declared.hold.Hold.{Hold}
use Rattle.tomex_path.specs.declared.reason.Reason.TheVariants as reasons
use Rattle.tomex_path.specs.Holds.{hold_address, hold_end, hold_issue, hold_of, hold_start, hold_station, hold_unit}
use Rattle.tomex_snapshots.specs.declared.entries.Entry.{Entry}
use Rattle.tomex_frames.specs.Cells.{doing_in, doing_text}
use Rattle.tomex_frames.specs.PathLaws.{SaysWait}
use Rattle.tomex_frames.specs.declared.doing.Cause.TheVariants as causes
use Rattle.tomex_frames.specs.declared.doing.Doing.TheVariants.{Waits as WaitsFor}
use Rattle.tomex_frames.proofs.Counts.{cut, same}
use Rattle.tomex_frames.proofs.Placed.{entry_at}
use Rattle.tomex_frames.proofs.Waits.{IsPlaced, computes, for_branch, for_bus, for_memory, for_station, for_unit}
use Rattle.tomex_frames.proofs.Waits.{for_width, to_start}

-- an address is in no cycle but its own
not_before : (o : Option ℕ) → 0 < cycle_of o → is_number o (cycle_of o - 1) ≡ false
not_before None some = refl
not_before (Some a) some = ne_eqb a (a - 1) (λ f. let g : a ≡ a - 1 = f in absurd (omega (arith, g, some)))

module _ (config : Configuration) (older : List Done) (d : Done) (number : ℕ)
    (placed : IsPlaced d.at.end (entry_at number config older d)) where
  abbrev pub last : ℕ
  last = d.at.end

  abbrev pub e : Entry
  e = entry_at number config older d

  abbrev pub w : Waits
  w = waits_of config older d

  -- what is said before a hold's first cycle
  abbrev pub Says : Hold → Type 0
  Says k = SaysWait k.reason (doing_text (doing_in (k.from - 1) e))

  station_says : (tag : Option Tag) → 0 < w.station → Says (hold_station older d tag)
  station_says None some = tt
  station_says (Some tag) some =
      ap doing_text (for_station last e placed (d.at.issue - 1) (omega (arith, placed.issue, placed.order))
      (omega (arith, placed.issue, some)))

  pub issue_says : Says (hold_issue older d w)
  issue_says = elim (cases_lt 0 w.station) [
    | inl station ↦ rw (lt-ltb 0 w.station station) (station_says (tag_of d) station)
    | inr no_station ↦ elim (cases_lt 0 w.width) [
      | inl width ↦
          rw (le-ltb 0 w.station no_station, lt-ltb 0 w.width width)
          (ap doing_text (for_width last e placed (d.at.issue - 1) (omega (arith, placed.issue, placed.order))
          (omega (arith, placed.issue, placed.order))))
      | inr no_width ↦ elim (cases_lt 0 w.branch) [
        | inl branch ↦
            rw (le-ltb 0 w.station no_station, le-ltb 0 w.width no_width, lt-ltb 0 w.branch branch)
            (ap doing_text (for_branch last e placed (d.at.issue - 1) (omega (arith, placed.issue, placed.order))
            (omega (arith, placed.issue, placed.order))))
        | inr no_branch ↦
            rw (le-ltb 0 w.station no_station, le-ltb 0 w.width no_width, le-ltb 0 w.branch no_branch) tt
      ]
    ]
  ]

  -- a cycle between the issue and the start, up to which an operand is waited for
  for_operand : (t : ℕ) → d.at.issue < t → t < d.at.start → is_number d.at.address t ≡ false
      → t - (d.at.issue + 1) < w.operand → doing_in t e ≡ Some (WaitsFor causes.Operand)
  for_operand t l m other within =
      to_start last e placed t l m other ∙ rw (lt-ltb (t - (d.at.issue + 1)) w.operand within) refl

  -- the base comes in the cycle before the address, so an operand is missing up to then
  base_says : d.at.issue + 1 < cycle_of d.at.address → cycle_of d.at.address < d.at.start
      → source_end older (j_of d.step) + 1 ≡ cycle_of d.at.address
      → doing_in (cycle_of d.at.address - 1) e ≡ Some (WaitsFor causes.Operand)
  base_says later sooner base =
      let lacks = same (lacks_operand older d) true (d.at.issue + 1) (cycle_of d.at.address)
      (λ t l m. rw (le-ltb (source_end older (j_of d.step)) t (omega arith)) refl) in
      let parts = cut (lacks_operand older d) (d.at.issue + 1) (cycle_of d.at.address) d.at.start (omega arith)
      (omega arith) in
      for_operand (cycle_of d.at.address - 1) (omega arith) (omega arith) (not_before d.at.address (omega arith))
      (omega (arith, lacks, parts))

  -- what has no address is held by nothing in it
  address_says : (address : Option ℕ) → d.at.address ≡ address → Says (hold_address older d w)
  address_says None is =
      let at : cycle_of d.at.address ≡ 0 = ap cycle_of is in
      rw (never d.at.issue at, never (source_end older (j_of d.step)) at) tt
    where
      never : (n : ℕ) → cycle_of d.at.address ≡ 0 → (n + 1 == cycle_of d.at.address) ≡ false
      never n at = ne_eqb (n + 1) (cycle_of d.at.address)
          (λ f. let g : n + 1 ≡ cycle_of d.at.address = f in absurd (omega (arith, g, at)))
  address_says (Some a) is =
      let between = placed.address a is in
      let at : cycle_of d.at.address ≡ a = ap cycle_of is in
      elim (cases_Bool (d.at.issue + 1 == cycle_of d.at.address)) [
        | inl next ↦ rw next issue_says
        | inr gap ↦ elim (cases_Bool (source_end older (j_of d.step) + 1 == cycle_of d.at.address)) [
          | inl base ↦
              let j : source_end older (j_of d.step) + 1 ≡ cycle_of d.at.address = eqb-true _ _ base in
              let later : d.at.issue + 1 < cycle_of d.at.address =
              apart (d.at.issue + 1) (cycle_of d.at.address) (omega (arith, between.0, at)) gap in
              rw (gap, base) (inl (ap doing_text (base_says later (omega (arith, between.1, at)) j)))
          | inr other ↦ rw (gap, other) tt
        ]
      ]
    where
      apart : (n a : ℕ) → n ≤ a → (n == a) ≡ false → n < a
      apart n a l other = elim (cases_lt n a) [
        | inl less ↦ less
        | inr more ↦ absurd (eqb-false n a other (omega arith))
      ]

  -- the last operand comes in the cycle before the start, which may be that of the address
  operand_says : 0 < w.operand → w.address ≡ 0 → w.memory ≡ 0 → w.unit ≡ 0
      → SaysWait reasons.Operand (doing_text (doing_in (d.at.start - 1) e))
  operand_says some no_address no_memory no_unit = elim (cases_Bool (is_number d.at.address (d.at.start - 1))) [
    | inl here ↦ inr (ap doing_text (computes last e placed (d.at.start - 1) (omega (arith, placed.start))
        (omega (arith, placed.start)) here))
    | inr other ↦ inl (ap doing_text (for_operand (d.at.start - 1) (omega (arith, placed.start))
        (omega (arith, placed.start)) other (omega (arith, placed.start))))
  ]

  unit_says : (unit : Option UnitId) → 0 < w.unit → Says (hold_unit older d w unit)
  unit_says None some = issue_says
  unit_says (Some unit) some = ap doing_text (for_unit last e placed (d.at.start - 1) (omega (arith, placed.start))
      (omega (arith, placed.start)))

  start_says : Says (hold_start older d w)
  start_says = elim (cases_lt 0 w.unit) [
    | inl unit ↦ rw (lt-ltb 0 w.unit unit) (unit_says (step_unit d.step) unit)
    | inr no_unit ↦ elim (cases_lt 0 w.memory) [
      | inl memory ↦
          rw (le-ltb 0 w.unit no_unit, lt-ltb 0 w.memory memory)
          (ap doing_text (for_memory last e placed (d.at.start - 1) (omega (arith, placed.start))
          (omega (arith, placed.start))))
      | inr no_memory ↦ elim (cases_lt 0 w.address) [
        | inl address ↦
            rw (le-ltb 0 w.unit no_unit, le-ltb 0 w.memory no_memory, lt-ltb 0 w.address address)
            (address_says d.at.address refl)
        | inr no_address ↦ elim (cases_lt 0 w.operand) [
          | inl operand ↦
              rw (
                le-ltb 0 w.unit no_unit,
                le-ltb 0 w.memory no_memory,
                le-ltb 0 w.address no_address,
                lt-ltb 0 w.operand operand,
              ) (operand_says operand (omega arith) (omega arith) (omega arith))
          | inr no_operand ↦
              rw (
                le-ltb 0 w.unit no_unit,
                le-ltb 0 w.memory no_memory,
                le-ltb 0 w.address no_address,
                le-ltb 0 w.operand no_operand,
              ) issue_says
        ]
      ]
    ]
  ]

  end_says : Says (hold_end older d w)
  end_says = elim (cases_lt 0 w.bus) [
    | inl bus ↦
        rw (lt-ltb 0 w.bus bus)
        (ap doing_text (for_bus last e placed (d.at.end - 1) (omega (arith, placed.bus, bus))
        (omega (arith, placed.bus, bus))))
    | inr no_bus ↦ rw (le-ltb 0 w.bus no_bus) start_says
  ]

  pub event_says : (event : Event) → Says (hold_of event older d w)
  event_says events.Issue = issue_says
  event_says events.Address = address_says d.at.address refl
  event_says events.Start = start_says
  event_says events.Finish = start_says
  event_says events.End = end_says
