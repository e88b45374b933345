-- Which step has a station: a pool's station of a number is one step's at a time. So the stations that are held have
-- different numbers, and are no more than the numbers up to the greatest.
use Rattle.std.proofs.Common.{ℕ, ◌<◌, ◌≤◌, ◌≡◌, Bool, true, false, arith, refl, inl, inr, List, [], ◌∷◌, Option, Some}
use Rattle.std.proofs.Common.{None, zero, suc, ◌+◌, cond, nat_le, ◌&&◌, is_some, not, MatchOption, ◌==◌, count_by}
use Rattle.std.specs.Bool.{MatchBool}
use Rattle.std.proofs.lemmas.Bool.{cases_Bool, and_parts, cases_order, eqb-true, le-ltb, lt-ltb}
use Rattle.tomex_rvdec.specs.Operands.{unit_at}
use Rattle.tomex_rvdec.specs.declared.pool.PoolId.{PoolId}
use Rattle.tomex_rvdec.specs.declared.pool.UnitId.{UnitId}
use Rattle.tomex_rvexec.specs.Steps.{is_in, is_number, step_dest, step_pool}
use Rattle.tomex_config.specs.Configuration.{Configuration}
use Rattle.tomex_timing.specs.declared.tables.Tag.{Tag}
use Rattle.tomex_timing.specs.declared.times.Done.{Done}
use Rattle.tomex_timing.specs.Laws.{NumbersAreLow, StationsAreApart, StationsAreThere}
use Rattle.tomex_timing.specs.Recurrence.{IsLeast, IsTimed, can_end, AreTimed}
use Rattle.tomex_timing.specs.Station.{has_station, is_free, is_held}
use Rattle.tomex_timing.specs.Tables.{tag_at}
use Rattle.tomex_timing.proofs.Least.{least_same}
use Rattle.tomex_timing.proofs.Search.{issue_station}
use Rattle.tomex_timing.proofs.Stations.{number_is, lower, split_count}
use Rattle.std.specs.List.{list_all}
use Rattle.std.proofs.lemmas.Bool.Decides.{nat_tests}
use Rattle.std.proofs.lemmas.List.Sums.{sum_by-cons}
use Rattle.tomex_config.specs.declared.part.Part.TheVariants.{Stations}
use Rattle.tomex_timing.specs.History.{last_issue}
use Rattle.tomex_timing.specs.Needs.{peak, stations_up_to}
use Rattle.tomex_timing.proofs.Limits.{pool_is}
use Rattle.tomex_timing.proofs.Width.{issue_from}
use Rattle.tomex_timing.proofs.Bools.{and_true}

-- the number is the least free one
station_least : (config : Configuration) (older : List Done) (d : Done) (pool : PoolId) (n : ℕ)
    → IsTimed config older d.step d.at → step_pool d.step ≡ Some pool → d.at.station ≡ Some n
    → IsLeast (is_free pool older d.at.issue) n
station_least config older d pool n timed a b =
    let is = rw a at timed.station in
    let same : is.0 ≡ n = cc (is.1, b) in
    rw same at is.2

pub number_low : NumbersAreLow
number_low config d older pool n timed a b =
    let here = station_least config older d pool n timed a b in
    let left : has_station config older (Some pool) d.at.issue ≡ true =
    rw a at (issue_station config older d.step d.at.issue timed.issue.0) in
    let found = number_is config older pool d.at.issue left in
    rw (least_same (is_free pool older d.at.issue) n _ here found.0) found.1

free_one : (a b : Bool) (i t end : ℕ) → i ≤ t → not ((a && nat_le i end) && b) ≡ true
    → not ((a && nat_le t end) && b) ≡ true
free_one a b i t end l free = grind (arith, nat_tests)

-- what is free stays free of the steps that had issued
pub free_later : (p : PoolId) (older : List Done) (n i t : ℕ) → i ≤ t → is_free p older i n ≡ true
    → is_free p older t n ≡ true
free_later p [] n i t l free = refl
free_later p (e ∷ older) n i t l free =
    let two = and_parts (not (is_held p i e && is_number e.at.station n)) (is_free p older i n) free in
    rw (
      free_one (is_in p (step_pool e.step)) (is_number e.at.station n) i t e.at.end l two.0,
      free_later p older n i t
          l two.1,
    ) refl

pub stations_apart : StationsAreApart
stations_apart config d older pool n t timed a b l =
    free_later pool older n d.at.issue t l (station_least config older d pool n timed a b).0

tag_there : (pool : Option PoolId) (station : Option ℕ) (issue end : ℕ) (Q : UnitId → Type 0) (R : PoolId → ℕ → Type 0)
    → MatchOption (unit_at pool) (end ≡ issue) Q
    → MatchOption pool (station ≡ None) (λ p. (n : ℕ) × (station ≡ Some n) × R p n) → issue < end → (tag : Tag)
    × (tag_at pool station ≡ Some tag)
tag_there None station issue end Q R e s l = let f : end ≡ issue = e in absurd (omega arith)
tag_there (Some pool) station issue end Q R e s l = let f : station ≡ Some s.0 = s.1 in
    (record { pool = pool; number = s.0 }, rw f refl)

pub station_there : StationsAreThere
station_there config d older timed l =
    tag_there (step_pool d.step) d.at.station d.at.issue d.at.end
    (λ unit. MatchBool (is_some (step_dest d.step)) (IsLeast (can_end config older d.at.finish) d.at.end)
    (d.at.end ≡ d.at.finish)) (λ p n. IsLeast (is_free p older d.at.issue) n) timed.end timed.station l

-- what none passes counts none
none_pass : {X : Type 0} (q : X → Bool) (xs : List X) → list_all (λ x. not (q x)) xs ≡ true → count_by q xs ≡ 0
none_pass q [] h = refl
none_pass q (x ∷ xs) h =
    let two = and_parts (not (q x)) (list_all (λ x. not (q x)) xs) h in
    elim (cases_Bool (q x)) [
      | inl e ↦ let f : false ≡ true = rw e at two.0 in absurd (cc)
      | inr e ↦ rw (sum_by-cons, e, none_pass q xs two.1) refl
    ]

abbrev is_holder : PoolId → ℕ → ℕ → Done → Bool
is_holder pool t n d = is_held pool t d && is_number d.at.station n

-- a number that a step holds was free of what is older
holder_free : (config : Configuration) (older : List Done) (d : Done) (pool : PoolId) (t n : ℕ) → d.at.issue ≤ t
    → IsTimed config older d.step d.at → is_holder pool t n d ≡ true → is_free pool older t n ≡ true
holder_free config older d pool t n l timed h =
    let two = and_parts (is_held pool t d) (is_number d.at.station n) h in
    let of = pool_is pool (step_pool d.step) (and_parts (is_in pool (step_pool d.step)) (nat_le t d.at.end) two.0).0 in
    let is = rw of at timed.station in
    let number : (is.0 == n) ≡ true = rw is.1 at two.1 in
    free_later pool older n d.at.issue t l (rw (eqb-true is.0 n number) at is.2.0)

-- no two steps hold one number
one_holder : (config : Configuration) (h : List Done) (pool : PoolId) (t n : ℕ) → AreTimed config h → last_issue h ≤ t
    → count_by (is_holder pool t n) h ≤ 1
one_holder config [] pool t n timed l = omega arith
one_holder config (d ∷ h) pool t n timed l = elim (cases_Bool (is_holder pool t n d)) [
  | inl e ↦
      let none : count_by (is_holder pool t n) h ≡ 0 =
      none_pass (is_holder pool t n) h (holder_free config h d pool t n l timed.0 e) in
      rw (sum_by-cons, e, none) (omega arith)
  | inr e ↦
      let k : last_issue h ≤ d.at.issue = issue_from config h d.step d.at.issue timed.0.issue.0 in
      let rest : count_by (is_holder pool t n) h ≤ 1 = one_holder config h pool t n timed.1 (omega arith) in
      rw (sum_by-cons, e) (omega arith)
]

none_lower : {X : Type 0} (held : X → Bool) (station : X → Option ℕ) (xs : List X)
    → count_by (λ d. held d && lower (station d) 0) xs ≡ 0
none_lower held station [] = refl
none_lower held station (x ∷ xs) = rw (sum_by-cons, none (held x) (station x), none_lower held station xs) refl
  where
    none : (b : Bool) (s : Option ℕ) → (b && lower s 0) ≡ false
    none false s = refl
    none true None = refl
    none true (Some m) = le-ltb m 0 (omega arith)

-- if each number is held at most once, the first n numbers are held at most n times
few : {X : Type 0} (held : X → Bool) (station : X → Option ℕ) (xs : List X) (m : ℕ)
    → ((k : ℕ) → count_by (λ d. held d && is_number (station d) k) xs ≤ 1)
    → count_by (λ d. held d && lower (station d) m) xs ≤ m
few held station xs zero one_each = rw (none_lower held station xs) (omega arith)
few held station xs (suc m) one_each =
    let a : count_by (λ d. held d && lower (station d) m) xs ≤ m = few held station xs m one_each in
    let b : count_by (λ d. held d && is_number (station d) m) xs ≤ 1 = one_each m in
    let e = split_count held station m xs in
    omega arith

-- and less often if one of them isn't held
fewer : {X : Type 0} (held : X → Bool) (station : X → Option ℕ) (xs : List X) (m n : ℕ)
    → ((k : ℕ) → count_by (λ d. held d && is_number (station d) k) xs ≤ 1)
    → n < m → count_by (λ d. held d && is_number (station d) n) xs ≡ 0
    → count_by (λ d. held d && lower (station d) m) xs < m
fewer held station xs zero n one_each l none = absurd (omega arith)
fewer held station xs (suc m) n one_each l none = elim (cases_order n m) [
  | inl e ↦
      let a : count_by (λ d. held d && lower (station d) m) xs ≤ m = few held station xs m one_each in
      let z : count_by (λ d. held d && is_number (station d) m) xs ≡ 0 = rw e at none in
      let s = split_count held station m xs in
      omega arith
  | inr (inl k) ↦
      let a : count_by (λ d. held d && lower (station d) m) xs < m = fewer held station xs m n one_each k none in
      let b : count_by (λ d. held d && is_number (station d) m) xs ≤ 1 = one_each m in
      let s = split_count held station m xs in
      omega arith
  | inr (inr k) ↦ absurd (omega arith)
]

-- a number of the pool lies below what is taken
held_low : (config : Configuration) (older : List Done) (d : Done) (pool : PoolId) (t m : ℕ)
    → IsTimed config older d.step d.at → cond (is_in pool (step_pool d.step)) (stations_up_to d.at.station) 0 ≤ m
    → is_held pool t d ≡ (is_held pool t d && lower d.at.station m)
held_low config older d pool t m timed l = elim (cases_Bool (is_in pool (step_pool d.step))) [
  | inl e ↦
      let is = rw (pool_is pool (step_pool d.step) e) at timed.station in
      let up : is.0 + 1 ≤ m = rw (e, is.1) at l in
      rw (is.1, lt-ltb is.0 m (omega arith)) (and_true (is_held pool t d))
  | inr e ↦ rw e refl
]

all_low : (config : Configuration) (h : List Done) (pool : PoolId) (t m : ℕ) → AreTimed config h
    → peak (Stations pool) h ≤ m → count_by (is_held pool t) h
    ≡ count_by (λ d. is_held pool t d && lower d.at.station m) h
all_low config [] pool t m timed l = refl
all_low config (d ∷ h) pool t m timed l =
    let e = held_low config h d pool t m timed.0 (omega arith) in
    rw (sum_by-cons, sum_by-cons, ← e, ← all_low config h pool t m timed.1 (omega arith)) refl

-- if a number below m is free, fewer than m stations are held
pub stations_fit : (config : Configuration) (h : List Done) (pool : PoolId) (t n m : ℕ) → AreTimed config h
    → last_issue h ≤ t → is_free pool h t n ≡ true → n < m → peak (Stations pool) h ≤ m
    → count_by (is_held pool t) h < m
stations_fit config h pool t n m timed l free below top =
    rw (all_low config h pool t m timed top)
    (fewer (is_held pool t) (λ d. d.at.station) h m n (λ k. one_holder config h pool t k timed l) below
    (none_pass (is_holder pool t n) h free))

-- no cycle from the last issue on has more stations held than the greatest number up to one's own
pub stations_held : (config : Configuration) (h : List Done) (pool : PoolId) (t : ℕ) → AreTimed config h
    → last_issue h ≤ t → count_by (is_held pool t) h ≤ peak (Stations pool) h
stations_held config h pool t timed l =
    rw (all_low config h pool t (peak (Stations pool) h) timed (omega arith))
    (few (is_held pool t) (λ d. d.at.station) h (peak (Stations pool) h) (λ k. one_holder config h pool t k timed l))
