-- One step more: nothing that is held is past the greatest end.
use Rattle.std.proofs.Common.{ℕ, ◌<◌, ◌≤◌, ◌≡◌, ◌∙◌, Bool, true, false, arith, sym, ap, inl, inr, List, ◌∷◌}
use Rattle.std.proofs.Common.{Option, Some, None, cond, length, max, slice_index}
use Rattle.std.specs.Prelude.{IfSome}
use Rattle.std.proofs.lemmas.Bool.{cases_eq, eqb-false}
use Rattle.std.proofs.lemmas.List.{get_or-set_same, get_or-set_other}
use Rattle.tomex_rvexec.specs.Steps.{is_branch, is_number, step_dest}
use Rattle.tomex_rvexec.specs.declared.step.Step.{Step}
use Rattle.tomex_config.specs.Configuration.{Configuration, IsWithinLimits}
use Rattle.tomex_timing.specs.declared.times.Done.{Done}
use Rattle.tomex_timing.specs.declared.times.Times.{Times}
use Rattle.tomex_timing.specs.Ahead.{Held, IsHeldAfter, IsSettledBy}
use Rattle.tomex_timing.specs.History.{cycle_of, greatest_end}
use Rattle.tomex_timing.specs.Laws.{InReach}
use Rattle.tomex_timing.specs.Recent.{addressed_by, facts_of, latest_after, written_by}
use Rattle.tomex_timing.specs.Recurrence.{AreTimed, IsTimed}
use Rattle.tomex_timing.proofs.AfterEnd.{never_zero}
use Rattle.tomex_timing.proofs.Orders.{reach}
use Rattle.tomex_timing.proofs.Summary.{IsShown, settled_by}
use Rattle.tomex_states.specs.States.{Shows}
use Rattle.tomex_states.proofs.Exact.{exact_of}

written_low : (dest : Option ℕ) (end g : ℕ) (ends : List ℕ) → length ends ≡ 32 → IfSome dest (λ r. r < 32)
    → ((r : ℕ) → r < 32 → slice_index ends r ≤ g) → (r : ℕ) → r < 32
    → slice_index (written_by dest end ends) r ≤ max end g
written_low None end g ends len small low r l = omega (arith, low r l)
written_low (Some q) end g ends len small low r l = elim (cases_eq q r) [
  | inl y ↦
      let there : q < length ends = rw len small in
      let here : slice_index (written_by (Some q) end ends) r ≡ end =
      rw (← y) (get_or-set_same ends q end 0 there) in
      omega arith
  | inr z ↦
      let there : slice_index (written_by (Some q) end ends) r ≡ slice_index ends r =
      get_or-set_other ends q r end 0 (λ (y : r ≡ q). z (sym y)) in
      omega (arith, low r l)
]

written_zero : (dest : Option ℕ) (end : ℕ) (ends : List ℕ) → is_number dest 0 ≡ false → slice_index ends 0 ≡ 0
    → slice_index (written_by dest end ends) 0 ≡ 0
written_zero None end ends e zero = zero
written_zero (Some q) end ends e zero =
    get_or-set_other ends q 0 end 0 (λ (y : 0 ≡ q). eqb-false q 0 e (sym y)) ∙ zero

branch_low : (b : Bool) (finish before end g : ℕ) → finish ≤ end → before ≤ g
    → cond b (max finish before) before ≤ max end g
branch_low true finish before end g l k = omega arith
branch_low false finish before end g l k = omega arith

address_low : (a : Option ℕ) (before end g : ℕ) → cycle_of a ≤ end → before ≤ g → addressed_by a before ≤ max end g
address_low None before end g l k = omega arith
address_low (Some t) before end g l k = omega arith

module _ {config : Configuration} {h : List Done} {s : Step} {at : Times} {held after : Held}
    (good : IsWithinLimits config) (timed : AreTimed config h) (shown : Shows config h held)
    (is : IsTimed config h s at) where
  pub settled_after : IfSome (step_dest s) (λ r. r < 32) → IsHeldAfter (facts_of s) at held after
      → IsShown (record { step = s; at = at } ∷ h) (record after { latest = latest_after (facts_of s) at (exact_of h) })
      → IsSettledBy after
  settled_after small is_after whole =
      let x = settled_by config (record { step = s; at = at } ∷ h)
      (record after { latest = latest_after (facts_of s) at (exact_of h) }) good (is, timed) whole in
      let r : InReach (greatest_end h) at = reach config (record { step = s; at = at }) h good (is, timed) in
      let before : IsSettledBy held = shown.settled in
      let e : after.latest.end ≡ max at.end (greatest_end h) =
      rw is_after.latest (ap (λ g. max at.end g) shown.latest.end) in
      record {
        base = rw is_after.latest x.base;
        starts = λ unit t l. x.starts unit t (rw e at l);
        results = λ t l. x.results t (rw e at l);
        stations = λ pool n l. rw e (x.stations pool n l);
        finishes = rw e x.finishes;
        ends = rw is_after.latest (written_low (step_dest s) at.end held.latest.end held.latest.ends
            shown.latest.count small before.ends);
        zero = rw is_after.latest
            (written_zero (step_dest s) at.end held.latest.ends (never_zero s) before.zero);
        issue = rw is_after.latest (omega (arith, r.issue));
        branch = rw is_after.latest
            (branch_low (is_branch s) at.finish held.latest.branch at.end held.latest.end r.finish before.branch);
        address = rw is_after.latest
            (address_low at.address held.latest.address at.end held.latest.end r.address before.address);
      }
