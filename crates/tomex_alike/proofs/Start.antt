-- The next address, start, finish and end.
use Rattle.std.proofs.Common.{ℕ, ◌+◌, ◌-◌, ◌<◌, ◌≤◌, ◌≡◌, ◌∙◌, Bool, true, false, arith, refl, sym, ap, inl, inr}
use Rattle.std.proofs.Common.{List, Option, Some, None, nat_lt, ◌&&◌, max, is_some, ◌⊎◌}
use Rattle.std.specs.Bool.{MatchBool}
use Rattle.std.proofs.lemmas.Bool.{cases_Bool, cases_lt, and_left, le-ltb, lt-ltb}
use Rattle.std.proofs.lemmas.Bool.{MatchBool-at_false, MatchBool-at_true}
use Rattle.tomex_rvdec.specs.Operands.{unit_at}
use Rattle.tomex_rvdec.specs.declared.pool.UnitId.{UnitId}
use Rattle.tomex_rvexec.specs.Steps.{step_unit, step_dest, j_of, k_of}
use Rattle.tomex_rvexec.specs.declared.step.Operand.{Operand}
use Rattle.tomex_rvexec.specs.declared.step.Step.{Step}
use Rattle.tomex_config.specs.Configuration.{Configuration, IsWithinLimits, option_of}
use Rattle.tomex_timing.specs.declared.times.Done.{Done}
use Rattle.tomex_timing.specs.declared.times.Times.{Times}
use Rattle.tomex_timing.specs.History.{is_memory, cycle_of, source_end, last_address}
use Rattle.tomex_timing.specs.Recent.{register_of}
use Rattle.tomex_timing.specs.Recurrence.{IsLeast, IsTimed, AreTimed, can_address, can_start, can_end, has_operands}
use Rattle.tomex_timing.specs.Recurrence.{are_conflicts_finished, has_unit, has_bus}
use Rattle.tomex_timing.proofs.Least.{least_same}
use Rattle.tomex_timing.proofs.Limits.{latency_low}
use Rattle.tomex_timing.proofs.Splits.{address_agree}
use Rattle.tomex_timing.proofs.Tests.{at_once, operation, cases_unit}
use Rattle.tomex_timing.specs.Issue.{first_issue}
use Rattle.tomex_alike.specs.Alike.{AreAsFar, IsAddressAsFar, IsAsFar, IsSameStep, LooksLike}
use Rattle.tomex_timing.proofs.Apart.{no_access}
use Rattle.tomex_alike.proofs.Accesses.{clear_alike}
use Rattle.tomex_alike.proofs.Issue.{issue_alike, station_alike}
use Rattle.tomex_alike.proofs.Shift.{IsShifted, least_shift, lt_shift}

-- the cycle of an access's address
pub address_is : (h : List Done) (s : Step) (issue : ℕ) (address : Option ℕ) → is_memory s ≡ true
    → MatchBool (is_memory s) (IsLeast (can_address h s issue) (cycle_of address)) (address ≡ None)
    → cycle_of address ≡ max (max issue (source_end h (j_of s))) (last_address h) + 1
address_is h s issue address e is =
    least_same (can_address h s issue) (cycle_of address) _
    (MatchBool-at_true _ (address ≡ None) e is) (address_agree h s issue)

pub no_address : (h : List Done) (s : Step) (issue : ℕ) (address : Option ℕ) → is_memory s ≡ false
    → MatchBool (is_memory s) (IsLeast (can_address h s issue) (cycle_of address)) (address ≡ None)
    → address ≡ None
no_address h s issue address e is =
    MatchBool-at_false (IsLeast (can_address h s issue) (cycle_of address)) (address ≡ None) e is

-- an address comes after the issue and after the last address
after_all : (n last issue j address : ℕ) → n ≤ issue → address ≡ max (max issue j) last + 1
    → (max issue address ≡ address) × (max n last < address)
after_all n last issue j address l e = (omega arith, omega arith)

-- a cycle after an address is as far after the first in which an access may start
access_far : (n m la lb a b t : ℕ) → la - n ≡ lb - m → a - n ≡ b - m → max n la < a → max m lb < b
    → a + 1 + t - (max n la + 2) ≡ b + 1 + t - (max m lb + 2)
access_far n m la lb a b t e f l k = omega arith

-- two addresses are as far
both_far : (n m : ℕ) (a b : Option ℕ) → n ≤ cycle_of a → m ≤ cycle_of b → 0 < cycle_of a → 0 < cycle_of b
    → cycle_of a - n ≡ cycle_of b - m → IsAddressAsFar n m a b
both_far n m None b l k s t e = absurd (omega arith)
both_far n m (Some a) None l k s t e = absurd (omega arith)
both_far n m (Some a) (Some b) l k s t e = record { first = l; second = k; far = e }

module _ (config : Configuration) (w : ℕ) (g h : List Done) (good : IsWithinLimits config) (in_g : AreTimed config g)
    (in_h : AreTimed config h) (like : LooksLike config w g h) where
  source_alike : (a b : Option Operand) → register_of a ≡ register_of b
      → source_end g a - first_issue config g ≡ source_end h b - first_issue config h
  source_alike None None e = omega arith
  source_alike None (Some b) e = absurd (cc)
  source_alike (Some a) None e = absurd (cc)
  source_alike (Some a) (Some b) e =
      let r : a.register ≡ b.register = cc in
      rw r (like.ends b.register)

  module _ (x y : Step) (same : IsSameStep w g h x y) (a b : Times) (p : IsTimed config g x a)
      (q : IsTimed config h y b) where
    memory_same : is_memory x ≡ is_memory y
    memory_same = rw same.pool refl

    unit_same : step_unit x ≡ step_unit y
    unit_same = ap unit_at same.pool

    issue_far : IsAsFar (first_issue config g) (first_issue config h) a.issue b.issue
    issue_far = issue_alike config w g h good in_g in_h like x y a b same.pool p q

    pub j_far : source_end g (j_of x) - first_issue config g ≡ source_end h (j_of y) - first_issue config h
    j_far = source_alike (j_of x) (j_of y) same.j

    pub k_far : source_end g (k_of x) - first_issue config g ≡ source_end h (k_of y) - first_issue config h
    k_far = source_alike (k_of x) (k_of y) same.k

    pub address_far : cycle_of a.address - first_issue config g ≡ cycle_of b.address - first_issue config h
    address_far = elim (cases_Bool (is_memory x)) [
      | inl e ↦
          let i = issue_far in
          let j = j_far in
          let k = address_is g x a.issue a.address e p.address in
          let l = address_is h y b.issue b.address (sym memory_same ∙ e) q.address in
          omega (arith, i.first, i.second, i.far, like.address)
      | inr e ↦
          rw (
            no_address g x a.issue a.address e p.address,
            no_address h y b.issue b.address (sym memory_same ∙ e) q.address,
          ) (omega arith)
    ]

    addresses_far : IsAddressAsFar (first_issue config g) (first_issue config h) a.address b.address
    addresses_far = elim (cases_Bool (is_memory x)) [
      | inl e ↦
          let i = issue_far in
          let f = address_far in
          let k = address_is g x a.issue a.address e p.address in
          let l = address_is h y b.issue b.address (sym memory_same ∙ e) q.address in
          both_far _ _ a.address b.address (omega (arith, i.first, k)) (omega (arith, i.second, l)) (omega arith)
          (omega arith) f
      | inr e ↦
          rw (
            no_address g x a.issue a.address e p.address,
            no_address h y b.issue b.address (sym memory_same ∙ e) q.address,
          ) tt
    ]

    pub ready_far : IsAsFar (first_issue config g) (first_issue config h) (max a.issue (cycle_of a.address))
        (max b.issue (cycle_of b.address))
    ready_far =
        let i = issue_far in
        let k = address_far in
        record {
          first = omega (arith, i.first);
          second = omega (arith, i.second);
          far = omega (arith, i.first, i.second, i.far);
        }

    pub clear_far : (t : ℕ) → are_conflicts_finished g x (max a.issue (cycle_of a.address) + 1 + t)
        ≡ are_conflicts_finished h y (max b.issue (cycle_of b.address) + 1 + t)
    clear_far t = elim (cases_Bool (is_memory x)) [
      | inl e ↦
          let i = issue_far in
          let k = address_is g x a.issue a.address e p.address in
          let l = address_is h y b.issue b.address (sym memory_same ∙ e) q.address in
          let u = after_all _ _ _ _ _ i.first k in
          let v = after_all _ _ _ _ _ i.second l in
          let far = access_far (first_issue config g) (first_issue config h) (last_address g) (last_address h)
          (cycle_of a.address) (cycle_of b.address) t like.address address_far u.1 v.1 in
          rw (u.0, v.0) (clear_alike config w g h like x y _ _ same (omega (arith, u.1)) (omega (arith, v.1)) far)
      | inr e ↦
          no_access g x _ e ∙ sym (no_access h y _ (sym memory_same ∙ e))
    ]

    unit_far : (u : UnitId) (t : ℕ) → has_unit config g u (max a.issue (cycle_of a.address) + 1 + t)
        ≡ has_unit config h u (max b.issue (cycle_of b.address) + 1 + t)
    unit_far u t =
        let r = ready_far in
        let n = first_issue config g in
        let m = first_issue config h in
        let v = max a.issue (cycle_of a.address) - n + 1 + t in
        let e : n + v ≡ max a.issue (cycle_of a.address) + 1 + t = omega (arith, r.first) in
        let f : m + v ≡ max b.issue (cycle_of b.address) + 1 + t = omega (arith, r.second, r.far) in
        ap (λ c. nat_lt c (option_of config u).units) (rw (e, f) at (like.starts u v (omega arith)))

    start_shift : (u : UnitId) → IsShifted (can_start config g x u a.issue (cycle_of a.address))
        (can_start config h y u b.issue (cycle_of b.address)) (max a.issue (cycle_of a.address) + 1)
        (max b.issue (cycle_of b.address) + 1)
    start_shift u =
        let i = issue_far in
        let r = ready_far in record {
          first = λ t l. too_early (nat_lt a.issue t) (nat_lt (cycle_of a.address) t) (has_operands g x t)
              (are_conflicts_finished g x t) (has_unit config g u t) (elim (cases_lt (cycle_of a.address) a.issue) [
                | inl k ↦ inl (le-ltb a.issue t (omega arith))
                | inr k ↦ inr (le-ltb (cycle_of a.address) t (omega arith))
              ]);
          second = λ t l. too_early (nat_lt b.issue t) (nat_lt (cycle_of b.address) t) (has_operands h y t)
              (are_conflicts_finished h y t) (has_unit config h u t) (elim (cases_lt (cycle_of b.address) b.issue) [
                | inl k ↦ inl (le-ltb b.issue t (omega arith))
                | inr k ↦ inr (le-ltb (cycle_of b.address) t (omega arith))
              ]);
          same = λ t. rw (
            lt_shift _ _ a.issue b.issue _ _ t i.far r,
            lt_shift _ _ (cycle_of a.address) (cycle_of b.address) _ _ t address_far r,
            lt_shift _ _ (source_end g (j_of x)) (source_end h (j_of y)) _ _ t j_far r,
            lt_shift _ _ (source_end g (k_of x)) (source_end h (k_of y)) _ _ t k_far r,
            clear_far t,
            unit_far u t,
          ) refl;
        }
      where
        too_early : (b c d e f : Bool) → (b ≡ false) ⊎ (c ≡ false) → (b && c && d && e && f) ≡ false
        too_early b c d e f (inl z) = rw z refl
        too_early true c d e f (inr z) = rw z refl
        too_early false c d e f (inr z) = refl

    start_far : IsAsFar (first_issue config g) (first_issue config h) a.start b.start
    start_far = elim (cases_unit x) [
      | inl none ↦
          let s = at_once none p in
          let t = at_once (sym unit_same ∙ none) q in
          rw (s.start, t.start) issue_far
      | inr u ↦
          let s = operation u.1 p in
          let t = operation (sym unit_same ∙ u.1) q in
          let r = ready_far in
          let f = least_shift (can_start config g x u.0 a.issue (cycle_of a.address))
          (can_start config h y u.0 b.issue (cycle_of b.address)) (max a.issue (cycle_of a.address) + 1)
          (max b.issue (cycle_of b.address) + 1) a.start b.start (start_shift u.0) s.start t.start in
          record {
            first = omega (arith, r.first, f.first);
            second = omega (arith, r.second, f.second);
            far = omega (arith, r.first, r.second, r.far, f.first, f.second, f.far);
          }
    ]

    finish_far : IsAsFar (first_issue config g) (first_issue config h) a.finish b.finish
    finish_far = elim (cases_unit x) [
      | inl none ↦
          let s = at_once none p in
          let t = at_once (sym unit_same ∙ none) q in
          rw (s.finish, t.finish) issue_far
      | inr u ↦
          let s = operation u.1 p in
          let t = operation (sym unit_same ∙ u.1) q in
          let long = latency_low config u.0 good in
          let f = start_far in
          record {
            first = omega (arith, f.first, s.finish);
            second = omega (arith, f.second, t.finish);
            far = omega (arith, f.first, f.second, f.far, s.finish, t.finish);
          }
    ]

    bus_far : (t : ℕ) → has_bus config g (a.finish + 1 + t) ≡ has_bus config h (b.finish + 1 + t)
    bus_far t =
        let r = finish_far in
        let n = first_issue config g in
        let m = first_issue config h in
        let v = a.finish - n + 1 + t in
        let e : n + v ≡ a.finish + 1 + t = omega (arith, r.first) in
        let f : m + v ≡ b.finish + 1 + t = omega (arith, r.second, r.far) in
        ap (λ c. nat_lt c config.buses) (rw (e, f) at (like.results v (omega arith)))

    end_shift : IsShifted (can_end config g a.finish) (can_end config h b.finish) (a.finish + 1) (b.finish + 1)
    end_shift = record {
      first = λ t l. and_left (nat_lt a.finish t) (has_bus config g t) (le-ltb a.finish t (omega arith));
      second = λ t l. and_left (nat_lt b.finish t) (has_bus config h t) (le-ltb b.finish t (omega arith));
      same = λ t. rw (
        lt-ltb a.finish (a.finish + 1 + t) (omega arith),
        lt-ltb b.finish (b.finish + 1 + t) (omega arith),
        bus_far t,
      ) refl;
    }

    end_far : IsAsFar (first_issue config g) (first_issue config h) a.end b.end
    end_far = elim (cases_unit x) [
      | inl none ↦
          let s = at_once none p in
          let t = at_once (sym unit_same ∙ none) q in
          rw (s.end, t.end) issue_far
      | inr u ↦
          let s = operation u.1 p in
          let t = operation (sym unit_same ∙ u.1) q in
          let r = finish_far in
          elim (cases_Bool (is_some (step_dest x))) [
            | inl e ↦
                let f = least_shift (can_end config g a.finish) (can_end config h b.finish) (a.finish + 1)
                (b.finish + 1) a.end b.end end_shift (MatchBool-at_true _ (a.end ≡ a.finish) e s.end)
                (MatchBool-at_true _ (b.end ≡ b.finish) (rw same.dest at e) t.end) in
                record {
                  first = omega (arith, r.first, f.first);
                  second = omega (arith, r.second, f.second);
                  far = omega (arith, r.first, r.second, r.far, f.first, f.second, f.far);
                }
            | inr e ↦
                let i : a.end ≡ a.finish =
                MatchBool-at_false (IsLeast (can_end config g a.finish) a.end) (a.end ≡ a.finish) e s.end in
                let j : b.end ≡ b.finish =
                MatchBool-at_false (IsLeast (can_end config h b.finish) b.end) (b.end ≡ b.finish) (rw same.dest at e)
                t.end in
                rw (i, j) r
          ]
    ]

    pub times_alike : AreAsFar (first_issue config g) (first_issue config h) a b
    times_alike = record {
      issue = issue_far;
      address = addresses_far;
      start = start_far;
      finish = finish_far;
      end = end_far;
      station = station_alike config w g h good in_g in_h like x y a b same.pool p q;
    }
