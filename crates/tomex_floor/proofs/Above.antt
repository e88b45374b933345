-- Times that are above the floor's equations, each over its own history, are above the floor: those of a
-- configuration are.
use Rattle.std.proofs.Common.{ℕ, zero, suc, ◌+◌, ◌-◌, ◌<◌, ◌≤◌, ◌≡◌, ◌⊎◌, Bool, true, false, arith, refl, ap}
use Rattle.std.proofs.Common.{max, inl, inr, List, [], ◌∷◌, Option, Some, None, map, reverse}
use Rattle.std.specs.Prelude.{nat_lt, nat_le, ◌==◌, ◌||◌, not, count_by, is_some, if◌then◌else◌, MatchOption}
use Rattle.std.specs.Bool.{MatchBool}
use Rattle.std.specs.List.{list_all}
use Rattle.std.proofs.lemmas.Bool.{cases_Bool, and_parts, ltb-true, ltb-false, eq-eqb, MatchBool-at_true}
use Rattle.std.proofs.lemmas.Bool.{MatchBool-at_false}
use Rattle.std.proofs.lemmas.List.Sums.{sum_by-cons}
use Rattle.tomex_rvdec.specs.declared.pool.UnitId.{UnitId}
use Rattle.tomex_rvexec.specs.Steps.{step_unit, step_dest, j_of, k_of, is_branch, is_number}
use Rattle.tomex_rvexec.specs.declared.step.Operand.{Operand}
use Rattle.tomex_rvexec.specs.declared.step.Step.{Step}
use Rattle.tomex_config.specs.Configuration.{Configuration, option_of}
use Rattle.tomex_config.specs.declared.part.Part.TheVariants.{Units}
use Rattle.tomex_timing.specs.declared.times.Done.{Done}
use Rattle.tomex_timing.specs.declared.times.Times.{Times}
use Rattle.tomex_floor.specs.Floor.{AreNoLater, IsNoLater, floor_address, floor_end, floor_from, floor_issue, floor_of}
use Rattle.tomex_floor.specs.Floor.{floor_start, floors_of, issue_back, last_finish}
use Rattle.tomex_timing.specs.History.{is_of, is_memory, cycle_of, writer_end, source_end, last_issue, last_address}
use Rattle.tomex_timing.specs.History.{greatest_end}
use Rattle.tomex_floor.specs.Laws.{AreNoFaster, FloorIsBound, FloorsAreNoLater}
use Rattle.tomex_timing.specs.Needs.{peak}
use Rattle.tomex_timing.specs.Recurrence.{IsLeast, IsTimed, AreTimed, EndsAfter, can_issue, can_issue_another}
use Rattle.tomex_timing.specs.Recurrence.{are_branches_finished, can_address, can_start, can_end, conflicts}
use Rattle.tomex_timing.specs.Recurrence.{has_operands}
use Rattle.tomex_timing.specs.Recurrence.{are_conflicts_finished}
use Rattle.tomex_timing.specs.Search.{history, timed_of}
use Rattle.tomex_timing.proofs.Bound.{end_low, start_low}
use Rattle.tomex_timing.proofs.Histories.{are_timed, total_is}
use Rattle.tomex_timing.proofs.Width.{issue_from}

-- a step's times are at least those of the floor's equations over its own history
pub record IsAbove (latency : UnitId → ℕ) (w : ℕ) (older : List Done) (s : Step) (at : Times) : Type 0 where
  pub issue : floor_issue w older ≤ at.issue
  pub address : cycle_of (floor_address older s at.issue) ≤ cycle_of at.address
  pub start : MatchOption (step_unit s) (at.issue ≤ at.start)
      (λ u. floor_start older s at.issue (cycle_of at.address) ≤ at.start)
  pub finish : MatchOption (step_unit s) (at.issue ≤ at.finish) (λ u. at.start + latency u - 1 ≤ at.finish)
  pub end : MatchOption (step_unit s) (at.issue ≤ at.end) (λ u. floor_end s at.finish ≤ at.end)

abbrev pub AreAbove : (UnitId → ℕ) → ℕ → List Done → Type 0
AreAbove latency w [] = Unit {0}
AreAbove latency w (d ∷ older) = IsAbove latency w older d.step d.at × AreAbove latency w older

abbrev pub steps_of : List Done → List Step
steps_of h = map (λ d. d.step) h

-- each function of the older steps grows with them

finish_rises : (p : Step → Bool) (latency : UnitId → ℕ) (w : ℕ) (h : List Done)
    → AreNoLater (floors_of latency w (steps_of h)) h → last_finish p (floors_of latency w
    (steps_of h)) ≤ last_finish p h
finish_rises p latency w [] l = omega arith
finish_rises p latency w (d ∷ h) l =
    let rest = finish_rises p latency w h l.1 in
    let f = l.0.finish in
    elim (cases_Bool (p d.step)) [
      | inl e ↦ rw e (omega arith)
      | inr e ↦ rw e (omega arith)
    ]

back_rises : (latency : UnitId → ℕ) (w : ℕ) (h : List Done) (n : ℕ) → AreNoLater (floors_of latency w (steps_of h)) h
    → issue_back (floors_of latency w (steps_of h)) n ≤ issue_back h n
back_rises latency w [] n l = omega arith
back_rises latency w (d ∷ h) zero l = l.0.issue
back_rises latency w (d ∷ h) (suc n) l = back_rises latency w h n l.1

writer_rises : (latency : UnitId → ℕ) (w : ℕ) (h : List Done) (r : ℕ) → AreNoLater (floors_of latency w (steps_of h)) h
    → writer_end (floors_of latency w (steps_of h)) r ≤ writer_end h r
writer_rises latency w [] r l = omega arith
writer_rises latency w (d ∷ h) r l = elim (cases_Bool (is_number (step_dest d.step) r)) [
  | inl e ↦ rw e l.0.end
  | inr e ↦ rw e (writer_rises latency w h r l.1)
]

source_rises : (latency : UnitId → ℕ) (w : ℕ) (h : List Done) (o : Option Operand)
    → AreNoLater (floors_of latency w (steps_of h)) h
    → source_end (floors_of latency w (steps_of h)) o ≤ source_end h o
source_rises latency w h None l = omega arith
source_rises latency w h (Some o) l = writer_rises latency w h o.register l

choice : (b : Bool) (i j m n : ℕ) → i ≤ j → m ≤ n → (if b then i else m) ≤ (if b then j else n)
choice true i j m n k l = k
choice false i j m n k l = l

address_rises : (latency : UnitId → ℕ) (w : ℕ) (h : List Done) → AreNoLater (floors_of latency w (steps_of h)) h
    → last_address (floors_of latency w (steps_of h)) ≤ last_address h
address_rises latency w [] l = omega arith
address_rises latency w (d ∷ h) l = choice (is_memory d.step) _ _ _ _ l.0.address (address_rises latency w h l.1)

-- times above the equations are above the floor

address_step : (f h : List Done) (s : Step) (i j : ℕ) → i ≤ j → source_end f (j_of s) ≤ source_end h (j_of s)
    → last_address f ≤ last_address h → cycle_of (floor_address f s i) ≤ cycle_of (floor_address h s j)
address_step f h s i j l k m = elim (cases_Bool (is_memory s)) [
  | inl e ↦ rw e (omega arith)
  | inr e ↦ rw e (omega arith)
]

end_step : (s : Step) (f g : ℕ) → f ≤ g → floor_end s f ≤ floor_end s g
end_step s f g l = elim (cases_Bool (is_some (step_dest s))) [
  | inl e ↦ rw e (omega arith)
  | inr e ↦ rw e (omega arith)
]

step_above : (latency : UnitId → ℕ) (w : ℕ) (h : List Done) (s : Step) (at : Times) (unit : Option UnitId)
    → (a : AreNoLater (floors_of latency w (steps_of h)) h)
    → floor_issue w h ≤ at.issue
    → cycle_of (floor_address h s at.issue) ≤ cycle_of at.address
    → MatchOption unit (at.issue ≤ at.start) (λ u. floor_start h s at.issue (cycle_of at.address) ≤ at.start)
    → MatchOption unit (at.issue ≤ at.finish) (λ u. at.start + latency u - 1 ≤ at.finish)
    → MatchOption unit (at.issue ≤ at.end) (λ u. floor_end s at.finish ≤ at.end)
    → IsNoLater (floor_from latency (floors_of latency w (steps_of h)) s (floor_issue w (floors_of latency w
    (steps_of h)))
    (floor_address (floors_of latency w (steps_of h)) s (floor_issue w (floors_of latency w (steps_of h)))) unit) at
step_above latency w h s at unit l issue address start finish end =
    let b = finish_rises is_branch latency w h l in
    let n = back_rises latency w h (w - 1) l in
    let i : floor_issue w (floors_of latency w (steps_of h)) ≤ at.issue = omega arith in
    let j = source_rises latency w h (j_of s) l in
    let k = source_rises latency w h (k_of s) l in
    let c = finish_rises (λ x. conflicts x s) latency w h l in
    let m = address_step (floors_of latency w (steps_of h)) h s (floor_issue w (floors_of latency w
    (steps_of h))) at.issue
    i j (address_rises latency w h l) in
    by_unit unit (floors_of latency w (steps_of h)) (floor_issue w (floors_of latency w (steps_of h)))
    (floor_address (floors_of latency w (steps_of h)) s (floor_issue w (floors_of latency w (steps_of h)))) i
    (omega (arith, m, address)) j k c start finish end
  where
    by_unit : (unit : Option UnitId) (f : List Done) (i : ℕ) (a : Option ℕ) → i ≤ at.issue
        → cycle_of a ≤ cycle_of at.address
        → source_end f (j_of s) ≤ source_end h (j_of s) → source_end f (k_of s) ≤ source_end h (k_of s)
        → last_finish (λ x. conflicts x s) f ≤ last_finish (λ x. conflicts x s) h
        → MatchOption unit (at.issue ≤ at.start) (λ u. floor_start h s at.issue (cycle_of at.address) ≤ at.start)
        → MatchOption unit (at.issue ≤ at.finish) (λ u. at.start + latency u - 1 ≤ at.finish)
        → MatchOption unit (at.issue ≤ at.end) (λ u. floor_end s at.finish ≤ at.end)
        → IsNoLater (floor_from latency f s i a unit) at
    by_unit None f i a li la lj lk lc start finish end = record {
      issue = li;
      address = la;
      start = omega arith;
      finish = omega arith;
      end = omega arith;
    }
    by_unit (Some u) f i a li la lj lk lc start finish end =
        let st : floor_start f s i (cycle_of a) ≤ at.start = omega arith in
        let fi : floor_start f s i (cycle_of a) + latency u - 1 ≤ at.finish = omega (arith, st, finish) in
        let en = end_step s (floor_start f s i (cycle_of a) + latency u - 1) at.finish fi in
        record {
          issue = li;
          address = la;
          start = st;
          finish = fi;
          end = omega (arith, en, end);
        }

pub above_floor : (latency : UnitId → ℕ) (w : ℕ) (h : List Done) → AreAbove latency w h
    → AreNoLater (floors_of latency w (steps_of h)) h
above_floor latency w [] above = tt
above_floor latency w (d ∷ h) above =
    let rest = above_floor latency w h above.1 in
    let a = above.0 in
    (step_above latency w h d.step d.at (step_unit d.step) rest a.issue a.address a.start a.finish a.end, rest)

-- issues in order: of more steps than have issued by a cycle, one issues later

abbrev pub AreInOrder : List Done → Type 0
AreInOrder [] = Unit {0}
AreInOrder (d ∷ older) = (last_issue older ≤ d.at.issue) × AreInOrder older

pub back_low : (h : List Done) (n : ℕ) → AreInOrder h → issue_back h n ≤ last_issue h
back_low [] n o = omega arith
back_low (d ∷ h) zero o = omega arith
back_low (d ∷ h) (suc n) o = let k = back_low h n o.1 in let l = o.0 in omega arith

back_count : (h : List Done) (n t : ℕ) → AreInOrder h → 0 < t → last_issue h ≤ t → t ≤ issue_back h n
    → n < count_by (λ d. d.at.issue == t) h
back_count [] n t o p l k = absurd (omega arith)
back_count (d ∷ h) zero t o p l k = rw (sum_by-cons, eq-eqb d.at.issue t (omega arith)) (omega arith)
back_count (d ∷ h) (suc n) t o p l k =
    let low = back_low h n o.1 in
    let order = o.0 in
    let rest : n < count_by (λ d. d.at.issue == t) h = back_count h n t o.1 p (omega arith) k in
    rw (sum_by-cons, eq-eqb d.at.issue t (omega arith)) (omega arith)

pub back_fall : (h : List Done) (m n : ℕ) → AreInOrder h → m ≤ n → issue_back h n ≤ issue_back h m
back_fall [] m n o l = omega arith
back_fall (d ∷ h) zero n o l = back_low (d ∷ h) n o
back_fall (d ∷ h) (suc m) zero o l = absurd (omega arith)
back_fall (d ∷ h) (suc m) (suc n) o l = back_fall h m n o.1 (omega arith)

-- a configuration's times are above the equations

pub in_order : (config : Configuration) (h : List Done) → AreTimed config h → AreInOrder h
in_order config [] timed = tt
in_order config (d ∷ h) timed = (issue_from config h d.step d.at.issue timed.0.issue.0, in_order config h timed.1)

pub all_finished : (p : Step → Bool) (h : List Done) (t : ℕ) → 0 < t
    → list_all (λ d. not (p d.step) || nat_lt d.at.finish t) h ≡ true → last_finish p h < t
all_finished p [] t pos all = pos
all_finished p (d ∷ h) t pos all =
    let two = and_parts (not (p d.step) || nat_lt d.at.finish t) _ all in
    let rest = all_finished p h t pos two.1 in
    elim (cases_Bool (p d.step)) [
      | inl e ↦
          let f : nat_lt d.at.finish t ≡ true = rw e at two.0 in
          let k : d.at.finish < t = ltb-true d.at.finish t f in
          rw e (omega arith)
      | inr e ↦ rw e (omega arith)
    ]

pub issue_above : (config : Configuration) (w : ℕ) (older : List Done) (s : Step) (t : ℕ) → AreTimed config older
    → config.width ≤ w → can_issue config older s t ≡ true → floor_issue w older ≤ t
issue_above config w older s t timed narrow can =
    let three = and_parts _ _ can in
    let two = and_parts _ (are_branches_finished older t) three.0 in
    let one = and_parts (nat_lt 0 t) (can_issue_another config older t) two.0 in
    let slot = and_parts (nat_le (last_issue older) t) _ one.1 in
    let pos : 0 < t = ltb-true 0 t one.0 in
    let b : last_finish is_branch older < t = all_finished is_branch older t pos two.1 in
    let after : last_issue older ≤ t = issue_from config older s t can in
    let few : count_by (λ d. d.at.issue == t) older < config.width =
    ltb-true (count_by (λ d. d.at.issue == t) older) config.width slot.1 in
    let back : issue_back older (w - 1) < t = elim (cases_Bool (nat_lt (issue_back older (w - 1)) t)) [
      | inl e ↦ ltb-true (issue_back older (w - 1)) t e
      | inr e ↦
          let late : t ≤ issue_back older (w - 1) = ltb-false (issue_back older (w - 1)) t e in
          let many = back_count older (w - 1) t (in_order config older timed) pos after late in
          absurd (omega (arith, many, few, narrow))
    ] in
    omega (arith, b, back)

pub address_low : (older : List Done) (s : Step) (issue t : ℕ) → can_address older s issue t ≡ true
    → 1 + max issue (max (source_end older (j_of s)) (last_address older)) ≤ t
address_low older s issue t can =
    let two = and_parts _ (nat_lt (last_address older) t) can in
    let one = and_parts (nat_lt issue t) (nat_lt (source_end older (j_of s)) t) two.0 in
    let a = ltb-true issue t one.0 in
    let b = ltb-true (source_end older (j_of s)) t one.1 in
    let c = ltb-true (last_address older) t two.1 in
    omega (arith, a, b, c)

address_above : (older : List Done) (s : Step) (issue : ℕ) (address : Option ℕ)
    → MatchBool (is_memory s) (IsLeast (can_address older s issue) (cycle_of address)) (address ≡ None)
    → cycle_of (floor_address older s issue) ≤ cycle_of address
address_above older s issue address is = elim (cases_Bool (is_memory s)) [
  | inl e ↦
      let least : IsLeast (can_address older s issue) (cycle_of address) = MatchBool-at_true _ _ e is in
      rw e (address_low older s issue (cycle_of address) least.0)
  | inr e ↦ rw e (omega arith)
]

pub start_above : (config : Configuration) (older : List Done) (s : Step) (u : UnitId) (issue address t : ℕ)
    → can_start config older s u issue address t ≡ true → floor_start older s issue address ≤ t
start_above config older s u issue address t can =
    let four = and_parts _ _ can in
    let three = and_parts _ (are_conflicts_finished older s t) four.0 in
    let two = and_parts _ (has_operands older s t) three.0 in
    let operands = and_parts (nat_lt (source_end older (j_of s)) t) (nat_lt (source_end older (k_of s)) t) two.1 in
    let low = start_low config older s u issue address t can in
    let i = low.0 in
    let a = low.1 in
    let j = ltb-true (source_end older (j_of s)) t operands.0 in
    let k = ltb-true (source_end older (k_of s)) t operands.1 in
    let c : last_finish (λ x. conflicts x s) older < t =
    all_finished (λ x. conflicts x s) older t (omega arith) three.1 in
    omega (arith, i, a, j, k, c)

end_above : (config : Configuration) (older : List Done) (s : Step) (finish end : ℕ)
    → EndsAfter config older s finish end → floor_end s finish ≤ end
end_above config older s finish end is = elim (cases_Bool (is_some (step_dest s))) [
  | inl e ↦
      let least : IsLeast (can_end config older finish) end = MatchBool-at_true _ _ e is in
      let l = end_low config older finish end least.0 in
      rw e (omega (arith, l))
  | inr e ↦
      let same : end ≡ finish = MatchBool-at_false (IsLeast (can_end config older finish) end) _ e is in
      rw e (omega (arith, same))
]

own_unit : (u : UnitId) → is_of u (Some u) ≡ true
own_unit u = eq-eqb _ _ refl

latency_above : (config : Configuration) (latency : UnitId → ℕ) (older : List Done) (d : Done) (u : UnitId)
    → step_unit d.step ≡ Some u → (latency u ≤ (option_of config u).latency) ⊎ (peak (Units u) (d ∷ older) ≡ 0)
    → latency u ≤ (option_of config u).latency
latency_above config latency older d u e (inl low) = low
latency_above config latency older d u e (inr none) = let n = rw (e, own_unit u) at none in absurd (omega arith)

by_option : (x : Option UnitId) (A B : Type 0) (P Q : UnitId → Type 0) → (A → B)
    → ((u : UnitId) → x ≡ Some u → P u → Q u) → MatchOption x A P → MatchOption x B Q
by_option None A B P Q g f h = g h
by_option (Some u) A B P Q g f h = f u refl h

step_timed : (config : Configuration) (latency : UnitId → ℕ) (w : ℕ) (older : List Done) (d : Done)
    → AreTimed config older → IsTimed config older d.step d.at → config.width ≤ w
    → AreNoFaster latency config (d ∷ older) → IsAbove latency w older d.step d.at
step_timed config latency w older d timed is narrow slow = record {
  issue = issue_above config w older d.step d.at.issue timed narrow is.issue.0;
  address = address_above older d.step d.at.issue d.at.address is.address;
  start = by_option (step_unit d.step) _ _ _ _ (λ (e : d.at.start ≡ d.at.issue). omega (arith, e))
      (λ u e x. start_above config older d.step u d.at.issue (cycle_of d.at.address) d.at.start x.0) is.start;
  finish = by_option (step_unit d.step) _ _ _ _ (λ (e : d.at.finish ≡ d.at.issue). omega (arith, e))
      (λ u e x. let l = latency_above config latency older d u e (slow u) in omega (arith, l, x)) is.finish;
  end = by_option (step_unit d.step) _ _ _ _ (λ (e : d.at.end ≡ d.at.issue). omega (arith, e))
      (λ u e x. end_above config older d.step d.at.finish d.at.end x) is.end;
}

slow_before : (config : Configuration) (latency : UnitId → ℕ) (older : List Done) (d : Done)
    → AreNoFaster latency config (d ∷ older) → AreNoFaster latency config older
slow_before config latency older d slow unit = elim (slow unit) [
  | inl low ↦ inl low
  | inr none ↦ inr (omega arith)
]

timed_above : (config : Configuration) (latency : UnitId → ℕ) (w : ℕ) (h : List Done) → AreTimed config h
    → config.width ≤ w → AreNoFaster latency config h → AreAbove latency w h
timed_above config latency w [] timed narrow slow = tt
timed_above config latency w (d ∷ h) timed narrow slow = (
  step_timed config latency w h d timed.1 timed.0 narrow slow,
  timed_above config latency w h timed.1 narrow (slow_before config latency h d slow),
)

pub floors_no_later : FloorsAreNoLater
floors_no_later config latency w h timed narrow slow =
    above_floor latency w h (timed_above config latency w h timed narrow slow)

-- totals

end_rises : (latency : UnitId → ℕ) (w : ℕ) (h : List Done) → AreNoLater (floors_of latency w (steps_of h)) h
    → greatest_end (floors_of latency w (steps_of h)) ≤ greatest_end h
end_rises latency w [] l = omega arith
end_rises latency w (d ∷ h) l = let rest = end_rises latency w h l.1 in let e = l.0.end in omega (arith, rest, e)

steps_of-timed : (config : Configuration) (ys : List Step) → steps_of (timed_of config ys) ≡ ys
steps_of-timed config [] = refl
steps_of-timed config (y ∷ ys) = ap (λ zs. y ∷ zs) (steps_of-timed config ys)

pub floor_is_bound : FloorIsBound
floor_is_bound config latency w steps good narrow slow =
    let l = floors_no_later config latency w (history config steps) (are_timed config steps good) narrow slow in
    let e : greatest_end (floors_of latency w (steps_of (history config steps))) ≤ greatest_end (history config steps) =
    end_rises latency w (history config steps) l in
    let same : steps_of (history config steps) ≡ reverse steps = steps_of-timed config (reverse steps) in
    let f : floor_of latency w steps ≤ greatest_end (history config steps) = rw same at e in
    rw (← total_is config steps) f
