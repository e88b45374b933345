-- A link has a cycle, and besides its operation at most those of an issue, an address and an end.
use Rattle.std.proofs.Common.{ℕ, ◌+◌, ◌<◌, ◌≤◌, ◌≡◌, true, arith, ap, inl, inr, List, [], ◌∷◌, reverse}
use Rattle.std.specs.List.{All, AllByRecursion}
use Rattle.std.proofs.lemmas.Bool.{cases_Bool}
use Rattle.std.proofs.lemmas.List.{reverse-append}
use Rattle.std.proofs.lemmas.List.Elements.{All-append, All-from_recursion}
use Rattle.tomex_config.specs.Configuration.{Configuration, IsWithinLimits}
use Rattle.tomex_timing.specs.declared.times.Done.{Done}
use Rattle.tomex_timing.specs.History.{cycle_of, is_memory, last_issue}
use Rattle.tomex_timing.specs.Needs.{waits_of}
use Rattle.tomex_timing.specs.Recurrence.{AreTimed}
use Rattle.tomex_timing.proofs.Limits.{latency_low}
use Rattle.tomex_timing.proofs.Orders.{reach}
use Rattle.tomex_timing.proofs.Tests.{at_once, cases_unit, operation}
use Rattle.tomex_timing.proofs.Width.{issue_from}
use Rattle.tomex_path.specs.declared.event.Event.{Event}
use Rattle.tomex_path.specs.declared.event.Event.TheVariants as events
use Rattle.tomex_path.specs.declared.event.Holder.{Holder}
use Rattle.tomex_path.specs.declared.event.Holder.TheVariants.{Last}
use Rattle.tomex_path.specs.declared.hold.Hold.{Hold}
use Rattle.tomex_path.specs.declared.link.Link.{Link}
use Rattle.tomex_path.specs.Bound.{LinksAreShort, latency_on}
use Rattle.tomex_path.specs.Holds.{cycle_at, event_of, hold_of, passes}
use Rattle.tomex_path.specs.Laws.{cycles_of}
use Rattle.tomex_path.specs.Path.{hold_by, links, operation_in}
use Rattle.tomex_path.proofs.Addresses.{address_case, end_case}
use Rattle.tomex_path.proofs.Cases.{address_hold, end_hold, issue_hold, start_hold}
use Rattle.tomex_path.proofs.Operations.{some_within}
use Rattle.tomex_path.proofs.StartCases.{no_wait, start_case}
use Rattle.tomex_path.proofs.StationEnds.{issue_cases}
use Rattle.tomex_path.proofs.Whole.{has_address, held_met, later}

from_is : {k l : Hold} → k ≡ l → k.from ≡ l.from
from_is e = ap (λ (m : Hold). m.from) e

module _ (config : Configuration) (good : IsWithinLimits config) (d : Done) (older : List Done)
    (timed : AreTimed config (d ∷ older)) where
  issue_short : d.at.issue ≤ (issue_hold config d older).from
  issue_short = elim (issue_cases config d older good timed) [
    | inl c ↦ let e = from_is c.is in omega arith
    | inr (inl c) ↦ let e = from_is c.is in omega arith
    | inr (inr (inl c)) ↦ let e = from_is c.is in omega arith
    | inr (inr (inr (inl c))) ↦ let e = from_is c.is in omega arith
    | inr (inr (inr (inr c))) ↦ let e = from_is c.is in omega arith
  ]

  address_short : is_memory d.step ≡ true → cycle_of d.at.address ≤ (address_hold config d older).from + 1
  address_short memory = elim (address_case config d older timed memory) [
    | inl c ↦ let e = from_is c.is in omega (arith, issue_short, c.before)
    | inr (inl c) ↦ let e = from_is c.is in omega arith
    | inr (inr c) ↦ let e = from_is c.is in omega arith
  ]

  start_short : d.at.start ≤ (start_hold config d older).from + 2
  start_short = elim (start_case config d older good timed) [
    | inl c ↦ let e = from_is c.is in omega (arith, issue_short, c.before)
    | inr (inl c) ↦
        let a = address_short c.memory in
        let e = from_is c.is in
        omega (arith, c.before)
    | inr (inr (inl c)) ↦ let e = from_is c.is in omega arith
    | inr (inr (inr (inl c))) ↦ let e = from_is c.is in omega arith
    | inr (inr (inr (inr c))) ↦ let e = from_is c.is in omega arith
  ]

  -- from a hold up to a cycle there are at most n, and those of the operation
  abbrev IsShort : Hold → ℕ → ℕ → Type 0
  IsShort k to n = to < k.from + latency_on config (operation_in d k.from to) + n

  -- up to a finish, or to the end after it, with no wait between them
  finish_short : (to n : ℕ) → d.at.finish ≤ to → to ≤ d.at.finish + n → IsShort (start_hold config d older) to (n + 2)
  finish_short to n l m = elim (cases_unit d.step) [
    | inl none ↦
        let at = at_once none timed.0 in
        let e = from_is (no_wait config d older (omega (arith, at.start))).is in
        omega (arith, issue_short, at.finish)
    | inr u ↦
        let order : last_issue older ≤ d.at.issue = issue_from config older d.step d.at.issue timed.0.issue.0 in
        let op = operation u.1 timed.0 in
        let met = held_met config good events.Start d older timed (omega (arith, op.can.after_issue)) in
        let some = some_within d (start_hold config d older).from to u.0 u.1 met.within l in
        rw some (omega (arith, start_short, op.finish, latency_low config u.0 good))
  ]

  end_short : IsShort (end_hold config d older) d.at.end 3
  end_short = elim (end_case config d older good timed) [
    | inl c ↦
        let within = reach config d older good timed in
        rw c.is (finish_short d.at.end 1 within.finish c.end)
    | inr c ↦ let e = from_is c.is in omega arith
  ]

  event_short : (e : Event) → last_issue older < cycle_at e d.at
      → IsShort (hold_of e older d (waits_of config older d)) (cycle_at e d.at) 3
  event_short events.Issue l = omega (arith, issue_short)
  event_short events.Address l = omega (arith, address_short (has_address config good d older timed (omega arith)))
  event_short events.Start l = omega (arith, start_short)
  event_short events.Finish l =
      let s = finish_short d.at.finish 0 (omega arith) (omega arith) in
      omega arith
  event_short events.End l = end_short

abbrev IsShortLink : Configuration → Link → Type 0
IsShortLink config l = (0 < cycles_of l) × (cycles_of l ≤ latency_on config l.operation + 3)

short_links : (config : Configuration) (good : IsWithinLimits config) (by : Holder) (h : List Done)
    → AreTimed config h → AllByRecursion (IsShortLink config) (links config by h)
short_links config good by [] timed = tt
short_links config good by (d ∷ older) timed = elim (cases_Bool (passes by older d)) [
  | inl first ↦
      let after = later config good older d timed by first in
      let short = event_short config good d older timed (event_of by) after in
      let met = held_met config good (event_of by) d older timed after in
      rw first (
        (omega (arith, met.within), omega (arith, short)),
        short_links config good (hold_by config by older d).by older timed.1,
      )
  | inr rest ↦ rw rest (short_links config good by older timed.1)
]

all_reversed : (P : Link → Type 0) (ls : List Link) → AllByRecursion P ls → All P (reverse ls)
all_reversed P [] a = All-from_recursion P [] tt
all_reversed P (l ∷ ls) a =
    rw (reverse-append (l ∷ []) ls)
    (All-append P (reverse ls) (l ∷ []) (all_reversed P ls a.1) (All-from_recursion P (l ∷ []) (a.0, tt)))

pub links_are_short : LinksAreShort
links_are_short config h good timed =
    all_reversed (IsShortLink config) (links config Last h) (short_links config good Last h timed)
