-- The times of a step are in order.
use Rattle.std.proofs.Common.{ℕ, ◌≤◌, ◌≡◌, ◌∙◌, true, arith, refl, inl, inr, List, [], ◌∷◌, ◌++◌, Option, Some, None}
use Rattle.std.specs.Prelude.{is_some}
use Rattle.std.proofs.lemmas.Bool.{and_parts, cases_Bool, MatchBool-at_true}
use Rattle.std.proofs.lemmas.Bool.Decides.{nat_tests}
use Rattle.tomex_rvdec.specs.declared.pool.PoolId.{PoolId}
use Rattle.tomex_rvexec.specs.declared.step.ByteRange.{ByteRange}
use Rattle.tomex_rvexec.specs.declared.step.Step.{Step}
use Rattle.tomex_rvexec.specs.Results.{is_among}
use Rattle.tomex_rvexec.specs.Steps.{bytes_of, shares_byte, step_dest, step_pool, step_unit}
use Rattle.tomex_rvexec.proofs.Fields.{dest_needs_pool, unit_with_pool}
use Rattle.tomex_config.specs.Configuration.{Configuration}
use Rattle.tomex_timing.specs.declared.times.Done.{Done}
use Rattle.tomex_timing.specs.declared.times.Times.{Times}
use Rattle.tomex_timing.specs.History.{cycle_of, greatest_end, is_memory, last_address}
use Rattle.tomex_timing.specs.Laws.{AccessesConflict, AddressesRise, ConflictsAreFinished, ResultsComeLater}
use Rattle.tomex_timing.specs.Laws.{StartsComeLater, TimesAreInReach}
use Rattle.tomex_timing.specs.Recurrence.{AreTimed, IsLeast, IsTimed, are_conflicts_finished, can_address, can_end}
use Rattle.tomex_timing.proofs.Bound.{end_low, in_reach, timed_by}
use Rattle.tomex_timing.proofs.Tests.{at_once, can_address_is, cases_unit, operation, unit_of}

-- the older part of a history has the recurrence's times too
pub timed_part : (config : Configuration) (newer older : List Done) → AreTimed config (newer ++ older)
    → AreTimed config older
timed_part config [] older timed = timed
timed_part config (d ∷ newer) older timed = timed_part config newer older timed.1

pub reach : TimesAreInReach
reach config d older good timed =
    in_reach config older d.step d.at (greatest_end older) good (timed_by config older good timed.1) timed.0

pub start_later : StartsComeLater
start_later config d older timed some =
    let is = operation (unit_of d.step some).1 timed in
    (is.can.after_issue, is.can.after_address)

-- no step starts before its issue
pub start_after : (config : Configuration) (older : List Done) (s : Step) (at : Times) → IsTimed config older s at
    → at.issue ≤ at.start
start_after config older s at timed = elim (cases_unit s) [
  | inl none ↦ omega (arith, (at_once none timed).start)
  | inr u ↦ omega (arith, (operation u.1 timed).can.after_issue)
]

pub start_clear : ConflictsAreFinished
start_clear config d older timed some =
    let start = (operation (unit_of d.step some).1 timed).start in
    (and_parts _ (are_conflicts_finished older d.step d.at.start) (and_parts _ _ start.0).0).1

dest_pool : (s : Step) (pool : Option PoolId) → step_pool s ≡ pool → is_some (step_dest s) ≡ true → is_some pool ≡ true
dest_pool s None e dest =
    let none : step_dest s ≡ None = dest_needs_pool s e in
    let f : is_some {T = ℕ} None ≡ true = rw none at dest in
    absurd (cc)
dest_pool s (Some pool) e dest = refl

-- what writes a register uses a unit
pub dest_unit : (s : Step) → is_some (step_dest s) ≡ true → is_some (step_unit s) ≡ true
dest_unit s dest = unit_with_pool s ∙ dest_pool s (step_pool s) refl dest

-- a result ends in the first cycle with a bus for it
pub result_end : {config : Configuration} {older : List Done} {s : Step} {at : Times} → IsTimed config older s at
    → is_some (step_dest s) ≡ true → IsLeast (can_end config older at.finish) at.end
result_end {config} {older} {s} {at} timed dest =
    MatchBool-at_true (IsLeast (can_end config older at.finish) at.end) _ dest
    (operation (unit_of s (dest_unit s dest)).1 timed).end

pub result_later : ResultsComeLater
result_later config d older timed dest = end_low config older d.at.finish d.at.end (result_end timed dest).0

pub address_rises : AddressesRise
address_rises config d older timed memory =
    let least : IsLeast (can_address older d.step d.at.issue) (cycle_of d.at.address) =
    MatchBool-at_true _ _ memory timed.address in
    let can = can_address_is older d.step d.at.issue (cycle_of d.at.address) least.0 in
    (can.after_issue, can.in_order)

-- so the last address comes no earlier after one more step
pub last_address_rises : (config : Configuration) (h : List Done) (s : Step) (at : Times) → IsTimed config h s at
    → last_address h ≤ last_address (record { step = s; at = at } ∷ h)
last_address_rises config h s at timed = elim (cases_Bool (is_memory s)) [
  | inl e ↦ rw e (omega (arith, (address_rises config (record { step = s; at = at }) h timed e).1))
  | inr e ↦ rw e (omega arith)
]

share_from : (x y : Option ByteRange) (a : ℕ) → is_among x a ≡ true → is_among y a ≡ true → shares_byte x y ≡ true
share_from None y a e f = absurd (cc)
share_from (Some x) None a e f = absurd (cc)
share_from (Some x) (Some y) a e f = grind (arith, nat_tests)

pub conflict_at : AccessesConflict
conflict_at x y a e f store = rw (share_from (bytes_of x) (bytes_of y) a e f, store) refl
