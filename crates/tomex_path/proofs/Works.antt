-- In each cycle of a link its step works.
use Rattle.std.proofs.Common.{ℕ, ◌<◌, ◌≤◌, ◌≡◌, Bool, true, false, arith, refl, inl, inr}
use Rattle.std.proofs.Common.{List, ◌∷◌, Some, nat_le, ◌==◌, ◌&&◌, ◌||◌, is_some}
use Rattle.std.proofs.lemmas.Bool.{cases_Bool, cases_lt, eq-eqb, le-leb, or_left, or_right, MatchBool-at_false}
use Rattle.tomex_rvdec.specs.declared.pool.UnitId.{UnitId}
use Rattle.tomex_rvexec.specs.Steps.{step_dest, step_unit}
use Rattle.tomex_config.specs.Configuration.{Configuration, IsWithinLimits}
use Rattle.tomex_timing.specs.declared.times.Done.{Done}
use Rattle.tomex_timing.specs.History.{cycle_of, greatest_end, is_memory, last_issue}
use Rattle.tomex_timing.specs.Laws.{InReach}
use Rattle.tomex_timing.specs.Needs.{waits_of}
use Rattle.tomex_timing.specs.Recurrence.{AreTimed, IsLeast, can_end}
use Rattle.tomex_timing.proofs.Orders.{reach}
use Rattle.tomex_timing.proofs.Tests.{at_once, cases_unit, operation}
use Rattle.tomex_path.specs.declared.event.Event.{Event}
use Rattle.tomex_path.specs.declared.event.Event.TheVariants as events
use Rattle.tomex_path.specs.Holds.{cycle_at, hold_of}
use Rattle.tomex_path.specs.Laws.{EventsAreHeld, works}
use Rattle.tomex_path.proofs.Addresses.{address_case, end_case}
use Rattle.tomex_path.proofs.Cases.{address_hold, end_hold, issue_hold, start_hold}
use Rattle.tomex_path.proofs.Chain.{from_as}
use Rattle.tomex_path.proofs.StartCases.{no_wait, start_case}
use Rattle.tomex_path.proofs.StationEnds.{issue_cases}
use Rattle.tomex_path.proofs.Whole.{has_address, held_met}

-- by one of four
first_of : (a b c d : Bool) → a ≡ true → (((a || b) || c) || d) ≡ true
first_of true b c d e = refl
first_of false b c d e = absurd (cc)

second_of : (a b c d : Bool) → b ≡ true → (((a || b) || c) || d) ≡ true
second_of a b c d e = or_left (((a || b)) || c) d (or_left (a || b) c (or_right a b e))

third_of : (a b c d : Bool) → c ≡ true → (((a || b) || c) || d) ≡ true
third_of a b c d e = or_left ((a || b) || c) d (or_right (a || b) c e)

fourth_of : (a b c d : Bool) → d ≡ true → (((a || b) || c) || d) ≡ true
fourth_of a b c d e = or_right ((a || b) || c) d e

module _ (d : Done) where
  at_issue : (t : ℕ) → t ≡ d.at.issue → works d t ≡ true
  at_issue t e = first_of (t == d.at.issue) (is_memory d.step && t == cycle_of d.at.address)
      (is_some (step_unit d.step) && nat_le d.at.start t && nat_le t d.at.finish)
      (is_some (step_dest d.step) && t == d.at.end) (eq-eqb t d.at.issue e)

  at_address : (t : ℕ) → is_memory d.step ≡ true → t ≡ cycle_of d.at.address → works d t ≡ true
  at_address t m e = second_of (t == d.at.issue) (is_memory d.step && t == cycle_of d.at.address)
      (is_some (step_unit d.step) && nat_le d.at.start t && nat_le t d.at.finish)
      (is_some (step_dest d.step) && t == d.at.end) (rw (m, eq-eqb t (cycle_of d.at.address) e) refl)

  in_unit : (t : ℕ) (unit : UnitId) → step_unit d.step ≡ Some unit → d.at.start ≤ t → t ≤ d.at.finish
      → works d t ≡ true
  in_unit t unit is l m = third_of (t == d.at.issue) (is_memory d.step && t == cycle_of d.at.address)
      (is_some (step_unit d.step) && nat_le d.at.start t && nat_le t d.at.finish)
      (is_some (step_dest d.step) && t == d.at.end) (rw (is, le-leb d.at.start t l, le-leb t d.at.finish m) refl)

  on_bus : (t : ℕ) → is_some (step_dest d.step) ≡ true → t ≡ d.at.end → works d t ≡ true
  on_bus t dest e = fourth_of (t == d.at.issue) (is_memory d.step && t == cycle_of d.at.address)
      (is_some (step_unit d.step) && nat_le d.at.start t && nat_le t d.at.finish)
      (is_some (step_dest d.step) && t == d.at.end) (rw (dest, eq-eqb t d.at.end e) refl)

module _ (config : Configuration) (good : IsWithinLimits config) (d : Done) (older : List Done)
    (timed : AreTimed config (d ∷ older)) where
  issue_works : (s : ℕ) → (issue_hold config d older).from ≤ s → s ≤ d.at.issue → works d s ≡ true
  issue_works s l m = elim (issue_cases config d older good timed) [
    | inl c ↦ let k = from_as c.is l in at_issue d s (omega arith)
    | inr (inl c) ↦ let k = from_as c.is l in at_issue d s (omega arith)
    | inr (inr (inl c)) ↦ let k = from_as c.is l in at_issue d s (omega arith)
    | inr (inr (inr (inl c))) ↦ let k = from_as c.is l in absurd (omega arith)
    | inr (inr (inr (inr c))) ↦ let k = from_as c.is l in at_issue d s (omega arith)
  ]

  address_works : is_memory d.step ≡ true → (s : ℕ) → (address_hold config d older).from ≤ s
      → s ≤ cycle_of d.at.address → works d s ≡ true
  address_works memory s l m = elim (cases_lt s (cycle_of d.at.address)) [
    | inr late ↦ at_address d s memory (omega arith)
    | inl early ↦ elim (address_case config d older timed memory) [
      | inl c ↦ let k = from_as c.is l in issue_works s k (omega (arith, c.before))
      | inr (inl c) ↦ let k = from_as c.is l in absurd (omega arith)
      | inr (inr c) ↦ let k = from_as c.is l in absurd (omega arith)
    ]
  ]

  start_works : (s : ℕ) → (start_hold config d older).from ≤ s → s < d.at.start → works d s ≡ true
  start_works s l m = elim (start_case config d older good timed) [
    | inl c ↦ let k = from_as c.is l in issue_works s k (omega (arith, c.before))
    | inr (inl c) ↦ let k = from_as c.is l in address_works c.memory s k (omega (arith, c.before))
    | inr (inr (inl c)) ↦ let k = from_as c.is l in absurd (omega arith)
    | inr (inr (inr (inl c))) ↦ let k = from_as c.is l in absurd (omega arith)
    | inr (inr (inr (inr c))) ↦ let k = from_as c.is l in absurd (omega arith)
  ]

  -- up to the finish
  finish_works : (s : ℕ) → (start_hold config d older).from ≤ s → s ≤ d.at.finish → works d s ≡ true
  finish_works s l m = elim (cases_unit d.step) [
    | inl none ↦
        let at = at_once none timed.0 in
        let c = no_wait config d older (omega (arith, at.start)) in
        let k = from_as c.is l in
        issue_works s k (omega (arith, at.finish))
    | inr u ↦ elim (cases_lt s d.at.start) [
      | inl early ↦ start_works s l early
      | inr late ↦ in_unit d s u.0 u.1 late m
    ]
  ]

  end_works : (s : ℕ) → (end_hold config d older).from ≤ s → s ≤ d.at.end → works d s ≡ true
  end_works s l m = elim (end_case config d older good timed) [
    | inr c ↦ let k = from_as c.is l in bus s (omega arith) (omega arith)
    | inl c ↦
        let k = from_as c.is l in
        elim (cases_lt d.at.finish s) [
          | inr early ↦ finish_works s k early
          | inl late ↦ bus s (omega (arith, c.end)) late
        ]
  ]
    where
      -- what ends after its finish has a result
      bus : (s : ℕ) → s ≡ d.at.end → d.at.finish < s → works d s ≡ true
      bus s e late = elim (cases_Bool (is_some (step_dest d.step))) [
        | inl dest ↦ on_bus d s dest e
        | inr none ↦ elim (cases_unit d.step) [
          | inl n ↦ let at = at_once n timed.0 in absurd (omega (arith, at.finish, at.end))
          | inr u ↦
              let same : d.at.end ≡ d.at.finish =
              MatchBool-at_false (IsLeast (can_end config older d.at.finish) d.at.end) _ none
              (operation u.1 timed.0).end in
              absurd (omega arith)
        ]
      ]

  event_works : (e : Event) → last_issue older < cycle_at e d.at → (s : ℕ)
      → (hold_of e older d (waits_of config older d)).from ≤ s → s ≤ cycle_at e d.at → works d s ≡ true
  event_works events.Issue later s l m = issue_works s l m
  event_works events.Address later s l m = address_works (has_address config good d older timed (omega arith)) s l m
  event_works events.Start later s l m =
      let within : InReach (greatest_end older) d.at = reach config d older good timed in
      finish_works s l (omega (arith, within.order))
  event_works events.Finish later s l m = finish_works s l m
  event_works events.End later s l m = end_works s l m

pub events_are_held : EventsAreHeld
events_are_held config e d older good timed later =
    let met = held_met config good e d older timed later in
    record {
      before = met.before;
      within = met.within;
      work = event_works config good d older timed e later;
    }
