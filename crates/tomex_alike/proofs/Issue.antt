-- The next issue, and its station.
use Rattle.std.proofs.Common.{ℕ, ◌+◌, ◌-◌, ◌≡◌, ◌∙◌, arith, refl, sym, ap, nat_le}
use Rattle.std.proofs.Common.{List, ◌∷◌, Option, Some, None, ◌&&◌, MatchOption}
use Rattle.std.proofs.lemmas.Bool.{le-leb, lt-leb}
use Rattle.tomex_rvdec.specs.declared.pool.PoolId.{PoolId}
use Rattle.tomex_rvexec.specs.Steps.{step_pool}
use Rattle.tomex_rvexec.specs.declared.step.Step.{Step}
use Rattle.tomex_config.specs.Configuration.{Configuration, IsWithinLimits}
use Rattle.tomex_timing.specs.declared.times.Done.{Done}
use Rattle.tomex_timing.specs.declared.times.Times.{Times}
use Rattle.tomex_timing.specs.Recurrence.{IsLeast, IsTimed, AreTimed, can_issue}
use Rattle.tomex_timing.specs.Station.{has_station, is_free}
use Rattle.tomex_timing.proofs.Least.{least_agree, least_same}
use Rattle.tomex_timing.proofs.Splits.{issue_split, slot_range}
use Rattle.std.proofs.Common.{◌<◌, ◌≤◌, true, count_by}
use Rattle.std.proofs.lemmas.Bool.{and_parts, leb-true, lt-ltb}
use Rattle.std.proofs.lemmas.Bool.Decides.{same_from_decides}
use Rattle.tomex_config.specs.Configuration.{stations_of}
use Rattle.tomex_config.specs.declared.part.Part.TheVariants.{Stations}
use Rattle.tomex_timing.specs.History.{last_issue}
use Rattle.tomex_timing.specs.Search.{least}
use Rattle.tomex_timing.specs.Station.{is_held}
use Rattle.tomex_timing.proofs.Holders.{stations_fit}
use Rattle.tomex_timing.proofs.Stations.{number_is}
use Rattle.tomex_timing.proofs.Taken.{peak_within}
use Rattle.tomex_timing.specs.Issue.{first_issue}
use Rattle.tomex_alike.specs.Alike.{IsAsFar, LooksLike}
use Rattle.tomex_alike.proofs.Shift.{IsShifted, least_shift}

-- the test for issue is a first cycle and a station
pub issue_test : (config : Configuration) (h : List Done) (s : Step) (t : ℕ) → IsWithinLimits config
    → AreTimed config h
    → can_issue config h s t ≡ (nat_le (first_issue config h) t && has_station config h (step_pool s) t)
issue_test config h s t good timed =
    ap (λ b. b && has_station config h (step_pool s) t) (sym (issue_split config h t good timed))

-- a step issues in the first of these cycles or later, and so does each later one
pub issue_first : (config : Configuration) (h : List Done) (s : Step) (at : Times) → IsWithinLimits config
    → AreTimed config h → IsTimed config h s at
    → first_issue config h ≤ first_issue config (record { step = s; at = at } ∷ h)
issue_first config h s at good timed is =
    let tests = and_parts _ _ (sym (issue_test config h s at.issue good timed) ∙ is.issue.0) in
    let l : first_issue config h ≤ at.issue = leb-true (first_issue config h) at.issue tests.0 in
    let k = (slot_range config (record { step = s; at = at } ∷ h)).0 in
    omega (arith, l, k)

pub slot_low : (config : Configuration) (h : List Done) → last_issue h ≤ first_issue config h
slot_low config h = omega (arith, (slot_range config h).0)

-- a station is left just if one of the pool's numbers is free
free_number : (config : Configuration) (h : List Done) (pool : PoolId) (t : ℕ)
    → has_station config h (Some pool) t ≡ true
    → (k : ℕ) × (k < stations_of config pool) × (is_free pool h t k ≡ true)
free_number config h pool t e =
    let f = number_is config h pool t e in
    (least (is_free pool h t) (stations_of config pool), f.1, f.0.0)

station_from : (config : Configuration) (h : List Done) (pool : PoolId) (t k : ℕ) → AreTimed config h
    → last_issue h ≤ t → k < stations_of config pool → is_free pool h t k ≡ true
    → has_station config h (Some pool) t ≡ true
station_from config h pool t k timed l below free =
    lt-ltb (count_by (is_held pool t) h) (stations_of config pool)
    (stations_fit config h pool t k (stations_of config pool) timed l free below
    (peak_within config h (Stations pool) timed))

module _ (config : Configuration) (w : ℕ) (g h : List Done) (good : IsWithinLimits config) (in_g : AreTimed config g)
    (in_h : AreTimed config h) (like : LooksLike config w g h) where
  station_shift : (x : Option PoolId) (t : ℕ)
      → has_station config g x (first_issue config g + t) ≡ has_station config h x (first_issue config h + t)
  station_shift None t = refl
  station_shift (Some pool) t =
      let low = slot_low config g in
      let low' = slot_low config h in
      same_from_decides {P = (k : ℕ) × (k < stations_of config pool) × (is_free pool g (first_issue config g + t) k
      ≡ true)} (has_station config g (Some pool) (first_issue config g + t))
      (has_station config h (Some pool) (first_issue config h + t)) (
        λ e. free_number config g pool (first_issue config g + t) e,
        λ f. station_from config g pool (first_issue config g + t) f.0 in_g (omega (arith, low)) f.1 f.2,
      ) (
        λ e. let f = free_number config h pool (first_issue config h + t) e in (f.0, f.1, like.free pool t f.0 ∙ f.2),
        λ f. station_from config h pool (first_issue config h + t) f.0 in_h (omega (arith, low')) f.1
            (sym (like.free pool t f.0) ∙ f.2),
      )

  issue_shift : (x y : Step) → step_pool x ≡ step_pool y
      → IsShifted (can_issue config g x) (can_issue config h y) (first_issue config g) (first_issue config h)
  issue_shift x y same = record {
    first = λ t l. rw (issue_test config g x t good in_g, lt-leb (first_issue config g) t l) refl;
    second = λ t l. rw (issue_test config h y t good in_h, lt-leb (first_issue config h) t l) refl;
    same = λ t. rw (
      issue_test config g x (first_issue config g + t) good in_g,
      issue_test config h y (first_issue config h + t) good in_h,
      le-leb (first_issue config g) (first_issue config g + t) (omega arith),
      le-leb (first_issue config h) (first_issue config h + t) (omega arith),
      same,
    ) (station_shift (step_pool y) t);
  }

  pub issue_alike : (x y : Step) (a b : Times) → step_pool x ≡ step_pool y → IsTimed config g x a → IsTimed config h y b
      → IsAsFar (first_issue config g) (first_issue config h) a.issue b.issue
  issue_alike x y a b same p q =
      least_shift (can_issue config g x) (can_issue config h y) (first_issue config g) (first_issue config h) a.issue
      b.issue (issue_shift x y same) p.issue q.issue

  pub free_alike : (pool : PoolId) (k i j : ℕ) → IsAsFar (first_issue config g) (first_issue config h) i j
      → is_free pool g i k ≡ is_free pool h j k
  free_alike pool k i j far =
      let n = first_issue config g in
      let m = first_issue config h in
      let e : n + (i - n) ≡ i = omega (arith, far.first) in
      let f : m + (i - n) ≡ j = omega (arith, far.second, far.far) in
      rw (e, f) at (like.free pool (i - n) k)

  station_same : (x : Option PoolId) (i j : ℕ) (a b : Option ℕ)
      → IsAsFar (first_issue config g) (first_issue config h) i j
      → MatchOption x (a ≡ None) (λ pool. (n : ℕ) × (a ≡ Some n) × IsLeast (is_free pool g i) n)
      → MatchOption x (b ≡ None) (λ pool. (n : ℕ) × (b ≡ Some n) × IsLeast (is_free pool h j) n) → a ≡ b
  station_same None i j a b far p q = p ∙ sym q
  station_same (Some pool) i j a b far p q =
      let e : p.0 ≡ q.0 = least_same (is_free pool h j) p.0 q.0
      (least_agree (is_free pool g i) (is_free pool h j) p.0 (λ k. free_alike pool k i j far) p.2) q.2 in
      p.1 ∙ (ap Some e ∙ sym q.1)

  pub station_alike : (x y : Step) (a b : Times) → step_pool x ≡ step_pool y → IsTimed config g x a
      → IsTimed config h y b → a.station ≡ b.station
  station_alike x y a b same p q =
      station_same (step_pool y) a.issue b.issue a.station b.station (issue_alike x y a b same p q)
      (rw same at p.station) q.station
