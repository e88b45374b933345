-- Times that are above the floor's equations are above the floor of a stretch, which begins later: each of its times
-- is one more than the greatest of older ones, and the stretch has only some of the older steps.
use Rattle.std.proofs.Common.{ℕ, zero, suc, ◌+◌, ◌-◌, ◌<◌, ◌≤◌, ◌≡◌, ◌⊎◌, Bool, true, false, arith, refl}
use Rattle.std.proofs.Common.{inl, inr, List, [], ◌∷◌, ◌++◌, Option, Some, None}
use Rattle.std.specs.Prelude.{is_some, if◌then◌else◌, MatchOption}
use Rattle.std.specs.Bool.{MatchBool}
use Rattle.std.proofs.lemmas.Bool.{cases_Bool, eq-eqb, MatchBool-at_true, MatchBool-at_false}
use Rattle.tomex_rvdec.specs.declared.pool.UnitId.{UnitId}
use Rattle.tomex_rvexec.specs.Steps.{step_unit, step_dest, j_of, k_of, is_branch, is_number}
use Rattle.tomex_rvexec.specs.declared.step.Operand.{Operand}
use Rattle.tomex_rvexec.specs.declared.step.Step.{Step}
use Rattle.tomex_config.specs.Configuration.{Configuration, option_of}
use Rattle.tomex_config.specs.declared.part.Part.TheVariants.{Units}
use Rattle.tomex_timing.specs.declared.times.Done.{Done}
use Rattle.tomex_timing.specs.declared.times.Times.{Times}
use Rattle.tomex_timing.specs.History.{is_of, is_memory, cycle_of, writer_end, source_end, last_address}
use Rattle.tomex_timing.specs.History.{greatest_end}
use Rattle.tomex_timing.specs.Needs.{peak}
use Rattle.tomex_timing.specs.Recurrence.{IsLeast, IsTimed, AreTimed, EndsAfter, can_address, can_end, conflicts}
use Rattle.tomex_timing.proofs.Bound.{end_low}
use Rattle.tomex_timing.proofs.Width.{issue_from}
use Rattle.tomex_floor.specs.Floor.{floor_address, floor_end, floor_from, floor_issue, floor_start, floors_of}
use Rattle.tomex_floor.specs.Floor.{issue_back, last_finish}
use Rattle.tomex_floor.specs.Laws.{AreNoFaster}
use Rattle.tomex_floor.proofs.Above.{IsAbove, issue_above, address_low, start_above}
use Rattle.tomex_stretches.specs.Stretch.{AreNoLaterBy, IsNoLaterBy, oldest, steps_of}
use Rattle.tomex_stretches.specs.Laws.{FloorFrom, LastStretchIsBound, StretchIsBound}

-- each function of the stretch's floors is at most that of the whole history, n cycles taken off

abbrev pub floors : (UnitId → ℕ) → ℕ → List Done → List Done
floors latency w h = floors_of latency w (steps_of h)

finish_falls : (n : ℕ) (p : Step → Bool) (latency : UnitId → ℕ) (w : ℕ) (h older : List Done)
    → AreNoLaterBy n (floors latency w h) h
    → last_finish p (floors latency w h) ≤ last_finish p (h ++ older) - n
finish_falls n p latency w [] older l = omega arith
finish_falls n p latency w (d ∷ h) older l =
    let rest = finish_falls n p latency w h older l.1 in
    let f = l.0.finish in
    elim (cases_Bool (p d.step)) [
      | inl e ↦ rw e (omega arith)
      | inr e ↦ rw e (omega arith)
    ]

back_falls : (n : ℕ) (latency : UnitId → ℕ) (w : ℕ) (h older : List Done) (m : ℕ)
    → AreNoLaterBy n (floors latency w h) h
    → issue_back (floors latency w h) m ≤ issue_back (h ++ older) m - n
back_falls n latency w [] older m l = omega arith
back_falls n latency w (d ∷ h) older zero l = l.0.issue
back_falls n latency w (d ∷ h) older (suc m) l = back_falls n latency w h older m l.1

writer_falls : (n : ℕ) (latency : UnitId → ℕ) (w : ℕ) (h older : List Done) (r : ℕ)
    → AreNoLaterBy n (floors latency w h) h
    → writer_end (floors latency w h) r ≤ writer_end (h ++ older) r - n
writer_falls n latency w [] older r l = omega arith
writer_falls n latency w (d ∷ h) older r l = elim (cases_Bool (is_number (step_dest d.step) r)) [
  | inl e ↦ rw e l.0.end
  | inr e ↦ rw e (writer_falls n latency w h older r l.1)
]

source_falls : (n : ℕ) (latency : UnitId → ℕ) (w : ℕ) (h older : List Done) (o : Option Operand)
    → AreNoLaterBy n (floors latency w h) h
    → source_end (floors latency w h) o ≤ source_end (h ++ older) o - n
source_falls n latency w h older None l = omega arith
source_falls n latency w h older (Some o) l = writer_falls n latency w h older o.register l

address_falls : (n : ℕ) (latency : UnitId → ℕ) (w : ℕ) (h older : List Done)
    → AreNoLaterBy n (floors latency w h) h
    → last_address (floors latency w h) ≤ last_address (h ++ older) - n
address_falls n latency w [] older l = omega arith
address_falls n latency w (d ∷ h) older l =
    choice (is_memory d.step) _ _ _ _ l.0.address (address_falls n latency w h older l.1)
  where
    choice : (b : Bool) (i j k m : ℕ) → i ≤ j - n → k ≤ m - n → (if b then i else k) ≤ (if b then j else m) - n
    choice true i j k m x y = x
    choice false i j k m x y = y

-- one step

address_step : (n : ℕ) (f h : List Done) (s : Step) (i j : ℕ) → n < j → i ≤ j - n
    → source_end f (j_of s) ≤ source_end h (j_of s) - n → last_address f ≤ last_address h - n
    → cycle_of (floor_address f s i) ≤ cycle_of (floor_address h s j) - n
address_step n f h s i j late l k m = elim (cases_Bool (is_memory s)) [
  | inl e ↦ rw e (omega arith)
  | inr e ↦ rw e (omega arith)
]

end_step : (n : ℕ) (s : Step) (f g : ℕ) → n < g → f ≤ g - n → floor_end s f ≤ floor_end s g - n
end_step n s f g late l = elim (cases_Bool (is_some (step_dest s))) [
  | inl e ↦ rw e (omega arith)
  | inr e ↦ rw e (omega arith)
]

by_unit : (n : ℕ) (latency : UnitId → ℕ) (f h : List Done) (s : Step) (at : Times) (unit : Option UnitId) (i : ℕ)
    (a : Option ℕ) → n < at.issue → 0 < i → i ≤ at.issue - n → cycle_of a ≤ cycle_of at.address - n
    → source_end f (j_of s) ≤ source_end h (j_of s) - n → source_end f (k_of s) ≤ source_end h (k_of s) - n
    → last_finish (λ x. conflicts x s) f ≤ last_finish (λ x. conflicts x s) h - n
    → MatchOption unit (at.issue ≤ at.start) (λ u. floor_start h s at.issue (cycle_of at.address) ≤ at.start)
    → MatchOption unit (at.issue ≤ at.finish) (λ u. at.start + latency u - 1 ≤ at.finish)
    → MatchOption unit (at.issue ≤ at.end) (λ u. floor_end s at.finish ≤ at.end)
    → IsNoLaterBy n (floor_from latency f s i a unit) at
by_unit n latency f h s at None i a late pos li la lj lk lc start finish end = record {
  issue = li;
  address = la;
  start = omega arith;
  finish = omega arith;
  end = omega arith;
}
by_unit n latency f h s at (Some u) i a late pos li la lj lk lc start finish end =
    let st : floor_start f s i (cycle_of a) ≤ at.start - n = omega arith in
    let fi : floor_start f s i (cycle_of a) + latency u - 1 ≤ at.finish - n = omega (arith, st, finish) in
    let low : n < at.finish = omega (arith, late, start, finish) in
    let en = end_step n s (floor_start f s i (cycle_of a) + latency u - 1) at.finish low fi in
    record {
      issue = li;
      address = la;
      start = st;
      finish = fi;
      end = omega (arith, en, end);
    }

step_falls : (n : ℕ) (latency : UnitId → ℕ) (w : ℕ) (h older : List Done) (d : Done)
    → AreNoLaterBy n (floors latency w h) h → n < d.at.issue → IsAbove latency w (h ++ older) d.step d.at
    → AreNoLaterBy n (floors latency w (d ∷ h)) (d ∷ h)
step_falls n latency w h older d l late above =
    let issue = above.issue in
    let address = above.address in
    let b = finish_falls n is_branch latency w h older l in
    let m = back_falls n latency w h older (w - 1) l in
    let i : floor_issue w (floors latency w h) ≤ d.at.issue - n = omega (arith, issue, b, m, late) in
    let j = source_falls n latency w h older (j_of d.step) l in
    let k = source_falls n latency w h older (k_of d.step) l in
    let c = finish_falls n (λ x. conflicts x d.step) latency w h older l in
    let a = address_step n (floors latency w h) (h ++ older) d.step (floor_issue w (floors latency w h)) d.at.issue
    late i j (address_falls n latency w h older l) in (
      by_unit n latency (floors latency w h) (h ++ older) d.step d.at (step_unit d.step)
          (floor_issue w (floors latency w h))
          (floor_address (floors latency w h) d.step (floor_issue w (floors latency w h))) late (omega arith) i
          (omega (arith, a, address)) j k c above.start above.finish above.end,
      l,
    )

-- a configuration's times are above the equations, if its units are no faster

address_above : (older : List Done) (s : Step) (issue : ℕ) (address : Option ℕ)
    → MatchBool (is_memory s) (IsLeast (can_address older s issue) (cycle_of address)) (address ≡ None)
    → cycle_of (floor_address older s issue) ≤ cycle_of address
address_above older s issue address is = elim (cases_Bool (is_memory s)) [
  | inl e ↦
      let least : IsLeast (can_address older s issue) (cycle_of address) = MatchBool-at_true _ _ e is in
      rw e (address_low older s issue (cycle_of address) least.0)
  | inr e ↦ rw e (omega arith)
]

pub end_above : (config : Configuration) (older : List Done) (s : Step) (finish end : ℕ)
    → EndsAfter config older s finish end → floor_end s finish ≤ end
end_above config older s finish end is = elim (cases_Bool (is_some (step_dest s))) [
  | inl e ↦
      let least : IsLeast (can_end config older finish) end = MatchBool-at_true _ _ e is in
      let l = end_low config older finish end least.0 in
      rw e (omega (arith, l))
  | inr e ↦
      let same : end ≡ finish = MatchBool-at_false (IsLeast (can_end config older finish) end) _ e is in
      rw e (omega (arith, same))
]

own_unit : (u : UnitId) → is_of u (Some u) ≡ true
own_unit u = eq-eqb _ _ refl

latency_above : (config : Configuration) (latency : UnitId → ℕ) (h : List Done) (d : Done) (u : UnitId)
    → step_unit d.step ≡ Some u → (latency u ≤ (option_of config u).latency) ⊎ (peak (Units u) (d ∷ h) ≡ 0)
    → latency u ≤ (option_of config u).latency
latency_above config latency h d u e (inl low) = low
latency_above config latency h d u e (inr none) = let n = rw (e, own_unit u) at none in absurd (omega arith)

by_option : (x : Option UnitId) (A B : Type 0) (P Q : UnitId → Type 0) → (A → B)
    → ((u : UnitId) → x ≡ Some u → P u → Q u) → MatchOption x A P → MatchOption x B Q
by_option None A B P Q g f h = g h
by_option (Some u) A B P Q g f h = f u refl h

step_timed : (config : Configuration) (latency : UnitId → ℕ) (w : ℕ) (h older : List Done) (d : Done)
    → AreTimed config (h ++ older) → IsTimed config (h ++ older) d.step d.at → config.width ≤ w
    → AreNoFaster latency config (d ∷ h) → IsAbove latency w (h ++ older) d.step d.at
step_timed config latency w h older d timed is narrow slow = record {
  issue = issue_above config w (h ++ older) d.step d.at.issue timed narrow is.issue.0;
  address = address_above (h ++ older) d.step d.at.issue d.at.address is.address;
  start = by_option (step_unit d.step) _ _ _ _ (λ (e : d.at.start ≡ d.at.issue). omega (arith, e))
      (λ u e x. start_above config (h ++ older) d.step u d.at.issue (cycle_of d.at.address) d.at.start x.0) is.start;
  finish = by_option (step_unit d.step) _ _ _ _ (λ (e : d.at.finish ≡ d.at.issue). omega (arith, e))
      (λ u e x. let l = latency_above config latency h d u e (slow u) in omega (arith, l, x)) is.finish;
  end = by_option (step_unit d.step) _ _ _ _ (λ (e : d.at.end ≡ d.at.issue). omega (arith, e))
      (λ u e x. end_above config (h ++ older) d.step d.at.finish d.at.end x) is.end;
}

slow_before : (config : Configuration) (latency : UnitId → ℕ) (h : List Done) (d : Done)
    → AreNoFaster latency config (d ∷ h) → AreNoFaster latency config h
slow_before config latency h d slow unit = elim (slow unit) [
  | inl low ↦ inl low
  | inr none ↦ inr (omega arith)
]

-- a stretch issues in order

abbrev pub AreLater : ℕ → List Done → Type 0
AreLater n [] = Unit {0}
AreLater n (d ∷ h) = (n < d.at.issue) × AreLater n h

-- the first step of the run issues in a cycle, which is one from 1 on
pub issue_pos : (config : Configuration) (older : List Done) (d : Done) → AreTimed config (d ∷ older) → 0 < d.at.issue
issue_pos config older d timed =
    let i = issue_above config config.width older d.step d.at.issue timed.1 (omega arith) timed.0.issue.0 in
    omega (arith, i)

pub later_from : (config : Configuration) (d : Done) (h older : List Done) → AreTimed config ((d ∷ h) ++ older)
    → AreLater ((oldest d h).at.issue - 1) (d ∷ h)
later_from config d [] older timed = let p = issue_pos config older d timed in (omega (arith, p), tt)
later_from config d (e ∷ h) older timed =
    let rest = later_from config e h older timed.1 in
    let first = rest.0 in
    let order : e.at.issue ≤ d.at.issue =
    issue_from config ((e ∷ h) ++ older) d.step d.at.issue timed.0.issue.0 in
    (omega (arith, first, order), rest)

-- the laws

pub floor_falls : (n : ℕ) (config : Configuration) (latency : UnitId → ℕ) (w : ℕ) (h older : List Done)
    → AreLater n h → AreTimed config (h ++ older) → config.width ≤ w → AreNoFaster latency config h
    → AreNoLaterBy n (floors latency w h) h
floor_falls n config latency w [] older later timed narrow slow = tt
floor_falls n config latency w (d ∷ h) older later timed narrow slow =
    let rest = floor_falls n config latency w h older later.1 timed.1 narrow (slow_before config latency h d slow) in
    step_falls n latency w h older d rest later.0 (step_timed config latency w h older d timed.1 timed.0 narrow slow)

pub floor_from_first : FloorFrom
floor_from_first config latency w [] older timed narrow slow = tt
floor_from_first config latency w (d ∷ h) older timed narrow slow =
    floor_falls ((oldest d h).at.issue - 1) config latency w (d ∷ h) older (later_from config d h older timed) timed
    narrow slow

pub stretch_is_bound : StretchIsBound
stretch_is_bound config latency w [] older timed narrow slow = omega arith
stretch_is_bound config latency w (d ∷ h) older timed narrow slow =
    let l = floor_from_first config latency w (d ∷ h) older timed narrow slow in
    let i = l.0.issue in
    let later = later_from config d h older timed in
    let p = later.0 in
    omega (arith, i, p)

end_falls : (n : ℕ) (latency : UnitId → ℕ) (w : ℕ) (h older : List Done) → AreNoLaterBy n (floors latency w h) h
    → greatest_end (floors latency w h) ≤ greatest_end (h ++ older) - n
end_falls n latency w [] older l = omega arith
end_falls n latency w (d ∷ h) older l =
    let rest = end_falls n latency w h older l.1 in
    let e = l.0.end in
    omega (arith, rest, e)

pub last_stretch_is_bound : LastStretchIsBound
last_stretch_is_bound config latency w [] older timed narrow slow = omega arith
last_stretch_is_bound config latency w (d ∷ h) older timed narrow slow =
    let l = floor_from_first config latency w (d ∷ h) older timed narrow slow in
    let e = end_falls ((oldest d h).at.issue - 1) latency w (d ∷ h) older l in
    omega (arith, e)
