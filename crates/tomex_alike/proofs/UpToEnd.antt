-- Histories that look alike up to their greatest ends look alike: past them nothing is under way.
use Rattle.std.proofs.Common.{ℕ, ◌+◌, ◌-◌, ◌<◌, ◌≤◌, ◌≡◌, ◌∙◌, arith, refl, sym, true, false, inl, inr, List, [], ◌∷◌}
use Rattle.std.proofs.Common.{zero, suc}
use Rattle.std.proofs.lemmas.Bool.{cases_Bool, cases_lt, lt-leb, and_right}
use Rattle.tomex_rvdec.specs.declared.pool.PoolId.{PoolId}
use Rattle.tomex_rvdec.specs.declared.pool.UnitId.{UnitId}
use Rattle.tomex_rvexec.specs.Steps.{is_in, step_pool}
use Rattle.tomex_config.specs.Configuration.{Configuration, IsWithinLimits}
use Rattle.tomex_timing.specs.declared.times.Done.{Done}
use Rattle.tomex_timing.specs.History.{greatest_end, is_memory}
use Rattle.tomex_timing.specs.Recurrence.{AreTimed}
use Rattle.tomex_timing.specs.Station.{is_free, is_held}
use Rattle.tomex_timing.proofs.AfterEnd.{AllBy, last_address_by, results_none, starts_none, writer_end_by}
use Rattle.tomex_timing.proofs.Bound.{timed_by}
use Rattle.tomex_timing.specs.Issue.{first_issue}
use Rattle.tomex_alike.specs.Alike.{LooksLike, address_ahead, ahead, end_ahead, is_free_ahead, issued_now, lateness}
use Rattle.tomex_alike.specs.Alike.{results_ahead, starts_ahead, width_wait}
use Rattle.tomex_alike.proofs.Accesses.{finish_of}

-- after the greatest end every station is free
all_free : (pool : PoolId) (h : List Done) (t k : ℕ) → greatest_end h < t → is_free pool h t k ≡ true
all_free pool [] t k l = refl
all_free pool (d ∷ h) t k l =
    let e : is_held pool t d ≡ false =
    and_right (is_in pool (step_pool d.step)) _ (lt-leb t d.at.end (omega arith)) in
    rw (e, all_free pool h t k (omega arith)) refl

pub record LooksUpToEnd (config : Configuration) (w : ℕ) (g h : List Done) : Type 0 where
  pub issued : issued_now config g ≡ issued_now config h
  pub width : width_wait config g ≡ width_wait config h
  pub end : ahead config g ≡ ahead config h
  pub address : address_ahead config g ≡ address_ahead config h
  pub ends : (r : ℕ) → end_ahead config g r ≡ end_ahead config h r
  pub free : (pool : PoolId) (t k : ℕ) → t < ahead config g
      → is_free_ahead config pool g t k ≡ is_free_ahead config pool h t k
  pub starts : (unit : UnitId) (t : ℕ) → 0 < t → t < ahead config g
      → starts_ahead config unit g t ≡ starts_ahead config unit h t
  pub results : (t : ℕ) → 0 < t → t < ahead config g → results_ahead config g t ≡ results_ahead config h t
  pub accesses : (i : ℕ) → i < w → lateness config g i ≡ lateness config h i
  pub older : (i : ℕ) → w ≤ i → (lateness config g i ≡ 0) × (lateness config h i ≡ 0)

pub looks_from : (config : Configuration) (w : ℕ) (g h : List Done) → IsWithinLimits config → AreTimed config g
    → AreTimed config h → LooksUpToEnd config w g h → LooksLike config w g h
looks_from config w g h good in_g in_h up =
    let by_g = timed_by config g good in_g in
    let by_h = timed_by config h good in_h in
    let past_g = λ (t : ℕ) (l : ahead config g ≤ t). past (first_issue config g) (greatest_end g) t l in
    let past_h = λ (t : ℕ) (l : ahead config g ≤ t). past (first_issue config h) (greatest_end h) t (rw up.end at l) in
    record {
      issued = up.issued;
      width = up.width;
      end = up.end;
      address = up.address;
      ends = up.ends;
      free = λ pool t k. elim (cases_lt t (ahead config g)) [
        | inl l ↦ up.free pool t k l
        | inr l ↦ all_free pool g _ k (past_g t l) ∙ sym (all_free pool h _ k (past_h t l))
      ];
      starts = λ unit t z. elim (cases_lt t (ahead config g)) [
        | inl l ↦ up.starts unit t z l
        | inr l ↦
            starts_none g unit (greatest_end g) _ by_g (past_g t l)
            ∙ sym (starts_none h unit (greatest_end h) _ by_h (past_h t l))
      ];
      results = λ t z. elim (cases_lt t (ahead config g)) [
        | inl l ↦ up.results t z l
        | inr l ↦
            results_none g (greatest_end g) _ by_g (past_g t l)
            ∙ sym (results_none h (greatest_end h) _ by_h (past_h t l))
      ];
      accesses = up.accesses;
      older = up.older;
    }
  where
    past : (n e t : ℕ) → e + 1 - n ≤ t → e < n + t
    past n e t l = omega arith

-- each access has finished by the greatest end
pub access_by : (e : ℕ) (h : List Done) (i : ℕ) → AllBy e h → finish_of h i ≤ e
access_by e [] i by = omega arith
access_by e (d ∷ h) zero by = elim (cases_Bool (is_memory d.step)) [
  | inl m ↦ rw m by.0.finish
  | inr m ↦ rw m (access_by e h zero by.1)
]
access_by e (d ∷ h) (suc i) by = elim (cases_Bool (is_memory d.step)) [
  | inl m ↦ rw m (access_by e h i by.1)
  | inr m ↦ rw m (access_by e h (suc i) by.1)
]

-- if all is over
module _ (config : Configuration) (h : List Done) (good : IsWithinLimits config) (in_h : AreTimed config h)
    (over : ahead config h ≡ 0) where
  no_address : address_ahead config h ≡ 0
  no_address = omega (arith, last_address_by (greatest_end h) h (timed_by config h good in_h))

  no_end : (r : ℕ) → end_ahead config h r ≡ 0
  no_end r = omega (arith, writer_end_by (greatest_end h) h r (timed_by config h good in_h))

  not_late : (i : ℕ) → lateness config h i ≡ 0
  not_late i = omega (arith, access_by (greatest_end h) h i (timed_by config h good in_h))

-- only the room for an issue counts: histories look alike if it is the same
pub idle_alike : (config : Configuration) (w : ℕ) (g h : List Done) → IsWithinLimits config → AreTimed config g
    → AreTimed config h → ahead config g ≡ 0 → ahead config h ≡ 0
    → issued_now config g ≡ issued_now config h → width_wait config g ≡ width_wait config h → LooksLike config w g h
idle_alike config w g h good in_g in_h e f issued width =
    looks_from config w g h good in_g in_h (record {
      issued = issued;
      width = width;
      end = e ∙ sym f;
      address = no_address config g good in_g e ∙ sym (no_address config h good in_h f);
      ends = λ r. no_end config g good in_g e r ∙ sym (no_end config h good in_h f r);
      free = λ pool t k l. absurd (omega arith);
      starts = λ unit t z l. absurd (omega arith);
      results = λ t z l. absurd (omega arith);
      accesses = λ i l. not_late config g good in_g e i ∙ sym (not_late config h good in_h f i);
      older = λ i l. (not_late config g good in_g e i, not_late config h good in_h f i);
    })
