-- States that look alike show histories that do.
use Rattle.std.proofs.Common.{ℕ, ◌+◌, ◌<◌, ◌≤◌, ◌≡◌, ◌∙◌, true, false, arith, refl, sym, inl, inr, List, [], ◌∷◌}
use Rattle.std.proofs.Common.{All, IfSome, Option, Some, None, get_or, length}
use Rattle.std.specs.Prelude.{nat_lt, ◌&&◌}
use Rattle.std.proofs.lemmas.Bool.{cases_Bool, cases_lt, and_parts, eqb-true, lt-ltb, le-ltb, ne_eqb}
use Rattle.std.proofs.lemmas.List.Elements.{All-head, All-tail}
use Rattle.tomex_rvdec.specs.declared.pool.PoolId.{PoolId}
use Rattle.tomex_rvdec.specs.declared.pool.PoolId.TheVariants.{Alu, Mul, Div, Load, Store, Bru}
use Rattle.tomex_rvexec.specs.Steps.{is_in, is_number, step_dest, step_pool}
use Rattle.tomex_config.specs.Configuration.{Configuration, IsWithinLimits, stations_of}
use Rattle.tomex_config.specs.Cost.{all_pools}
use Rattle.tomex_timing.specs.declared.times.Done.{Done}
use Rattle.tomex_timing.specs.History.{writer_end}
use Rattle.tomex_timing.specs.Issue.{first_issue}
use Rattle.tomex_timing.specs.Recurrence.{AreTimed}
use Rattle.tomex_timing.specs.Station.{is_free, is_held}
use Rattle.tomex_timing.proofs.Holders.{number_low}
use Rattle.tomex_timing.proofs.Limits.{pool_is, stations_high}
use Rattle.tomex_alike.specs.Alike.{LooksLike, ahead, end_ahead, first_access, is_free_ahead}
use Rattle.tomex_alike.specs.Alike.{lateness}
use Rattle.tomex_alike.proofs.UpToEnd.{looks_from}
use Rattle.tomex_states.specs.Reuse.{AreAlike, AreAlikeTo, AreLatestAlike, AreStationsAlike, AreTablesAlike, CanBeKept}
use Rattle.tomex_states.specs.Reuse.{IsHistory, access_from, ahead_of, first_of}
use Rattle.tomex_states.specs.States.{ShowsState}
use Rattle.tomex_states.specs.declared.state.State.{State}

-- a register that the machine doesn't have is never written
not_written : (r : ℕ) (h : List Done) → 32 ≤ r → All (λ d. IfSome (step_dest d.step) (λ r. r < 32)) h
    → writer_end h r ≡ 0
not_written r [] l registers = refl
not_written r (d ∷ h) l registers =
    let other = not_dest (step_dest d.step) (All-head (λ d. IfSome (step_dest d.step) (λ r. r < 32)) d h registers) in
    let rest = not_written r h l (All-tail (λ d. IfSome (step_dest d.step) (λ r. r < 32)) d h registers) in
    rw other rest
  where
    not_dest : (x : Option ℕ) → IfSome x (λ r. r < 32) → is_number x r ≡ false
    not_dest None s = refl
    not_dest (Some q) s = ne_eqb q r (λ e. absurd (omega arith))

-- nor is a station held that it doesn't have
never_held : (config : Configuration) (pool : PoolId) (t k : ℕ) (h : List Done) → stations_of config pool ≤ k
    → AreTimed config h → is_free pool h t k ≡ true
never_held config pool t k [] l timed = refl
never_held config pool t k (d ∷ h) l timed = rw (apart, never_held config pool t k h l timed.1) refl
  where
    apart : (is_held pool t d && is_number d.at.station k) ≡ false
    apart = elim (cases_Bool (is_held pool t d && is_number d.at.station k)) [
      | inl e ↦
          let two = and_parts (is_held pool t d) (is_number d.at.station k) e in
          let of = pool_is pool (step_pool d.step) (and_parts (is_in pool (step_pool d.step)) _ two.0).0 in
          let is = rw of at timed.0.station in
          let low : is.0 < stations_of config pool = number_low config d h pool is.0 timed.0 of is.1 in
          let same : is.0 ≡ k = eqb-true is.0 k (rw is.1 at two.1) in
          absurd (omega arith)
      | inr e ↦ e
    ]

-- cycles that are as far ahead are as early
as_early : (n m x y t : ℕ) → ahead_of n x ≡ ahead_of m y → nat_lt x (n + t) ≡ nat_lt y (m + t)
as_early n m x y t e = elim (cases_lt x (n + t)) [
  | inl l ↦ let k : y < m + t = omega arith in rw (lt-ltb x (n + t) l, lt-ltb y (m + t) k) refl
  | inr l ↦ let k : m + t ≤ y = omega arith in rw (le-ltb x (n + t) l, le-ltb y (m + t) k) refl
]

-- the first cycles that matter are those of the history
pub access_is : {A : Type 0} (config : Configuration) (h : List Done) (state : State A) → ShowsState config h state
    → access_from config state ≡ first_access config h
access_is config h state shows =
    let first : first_of config state ≡ first_issue config h = shows.held.latest.first in
    let address = shows.held.latest.address in
    omega (arith, first, address)

-- no access that isn't compared can meet a later one
pub none_older : {A : Type 0} (config : Configuration) (h : List Done) (state : State A) → ShowsState config h state
    → CanBeKept config state → (i : ℕ) → 4 ≤ i → lateness config h i ≡ 0
none_older config h state shows kept i l =
    let from = access_is config h state shows in
    omega (arith, shows.window.older i l, kept.older, from)

module _ {A : Type 0} (config : Configuration) (a b : State A) (good : IsWithinLimits config)
    (alike : AreAlike config a b) (g h : List Done) (of_g : IsHistory config g) (of_h : IsHistory config h)
    (shows_g : ShowsState config g a) (shows_h : ShowsState config h b) where
  here : first_of config a ≡ first_issue config g
  here = shows_g.held.latest.first

  there : first_of config b ≡ first_issue config h
  there = shows_h.held.latest.first

  latest : AreLatestAlike (first_issue config g) (first_issue config h) a.recent.latest b.recent.latest
  latest = rw (← here, ← there) alike.latest

  ends : (r : ℕ) → end_ahead config g r ≡ end_ahead config h r
  ends r = elim (cases_lt r 32) [
    | inl l ↦ omega (arith, shows_g.held.latest.ends r l, shows_h.held.latest.ends r l, alike.ends r l, here, there)
    | inr l ↦ rw (not_written r g l of_g.registers, not_written r h l of_h.registers) (omega arith)
  ]

  free : (pool : PoolId) (t k : ℕ) → is_free_ahead config pool g t k ≡ is_free_ahead config pool h t k
  free pool t k = elim (cases_lt k (stations_of config pool)) [
    | inl l ↦
        let few : k < 16 = omega (arith, stations_high config pool good) in
        let n = first_issue config g in
        let m = first_issue config h in
        shows_g.held.holds.stations pool (n + t) k (omega arith) (omega arith) few
        ∙ (as_early n m _ _ t (rw (← here, ← there) (alike.stations pool k l))
        ∙ sym (shows_h.held.holds.stations pool (m + t) k (omega arith) (omega arith) few))
    | inr l ↦
        never_held config pool (first_issue config g + t) k g l of_g.timed
        ∙ sym (never_held config pool (first_issue config h + t) k h l of_h.timed)
  ]

  pub states_alike : CanBeKept config a → CanBeKept config b → LooksLike config 4 g h
  states_alike kept_a kept_b =
      let n = first_issue config g in
      let m = first_issue config h in
      let table = rw (here, there) at alike.table in
      looks_from config 4 g h good of_g.timed of_h.timed (record {
        issued = omega (arith, shows_g.held.latest.issued, shows_h.held.latest.issued, latest.issued);
        width = sym shows_g.held.latest.width ∙ (latest.width ∙ shows_h.held.latest.width);
        end = omega (arith, shows_g.held.latest.end, shows_h.held.latest.end, latest.end);
        address = sym shows_g.held.latest.address ∙ (latest.address ∙ shows_h.held.latest.address);
        ends = ends;
        free = λ pool t k l. free pool t k;
        starts = λ unit t z l.
            sym (shows_g.held.holds.starts unit (n + t) (omega arith))
            ∙ (table _ t z (omega (arith, shows_g.held.latest.end))
            ∙ shows_h.held.holds.starts unit (m + t) (omega arith));
        results = λ t z l.
            sym (shows_g.held.holds.results (n + t) (omega arith))
            ∙ (table _ t z (omega (arith, shows_g.held.latest.end))
            ∙ shows_h.held.holds.results (m + t) (omega arith));
        accesses = λ i l. omega (
          arith,
          shows_g.window.finishes i l,
          shows_h.window.finishes i l,
          alike.finishes i l,
          access_is config g a shows_g,
          access_is config h b shows_h,
        );
        older = λ i l. (none_older config g a shows_g kept_a i l, none_older config h b shows_h kept_b i l);
      })

-- Two states look alike, by their first cycles.
pub alike_by : {A : Type 0} (config : Configuration) (a b : State A) (n m ahead p q : ℕ) → n ≡ first_of config a
    → m ≡ first_of config b → ahead ≡ ahead_of n a.recent.latest.end → p ≡ access_from config a
    → q ≡ access_from config b → length a.recent.latest.ends ≡ 32 → length a.window.finishes ≡ 4
    → AreLatestAlike n m a.recent.latest b.recent.latest
    → AreAlikeTo (length a.recent.latest.ends) n m a.recent.latest.ends b.recent.latest.ends
    → AreStationsAlike config n m a.recent.stations.ends b.recent.stations.ends
    → AreTablesAlike ahead n m a.recent.table b.recent.table
    → AreAlikeTo (length a.window.finishes) p q a.window.finishes b.window.finishes → AreAlike config a b
alike_by config a b n m ahead p q here there end first other registers four latest ends stations table window = record {
  latest = rw (← here, ← there) latest;
  ends = rw (← here, ← there, ← registers) ends;
  stations = rw (← here, ← there) stations;
  table = rw (← here, ← there, ← end) table;
  finishes = rw (← first, ← other, ← four) window;
}

-- what holds of the pools at all places holds of each
pub of_all_pools : (P : PoolId → Type 0) → ((k : ℕ) (z : PoolId) → k < 6 → P (get_or all_pools k z))
    → (pool : PoolId) → P pool
of_all_pools P each Alu = each 0 Alu (omega arith)
of_all_pools P each Mul = each 1 Alu (omega arith)
of_all_pools P each Div = each 2 Alu (omega arith)
of_all_pools P each Load = each 3 Alu (omega arith)
of_all_pools P each Store = each 4 Alu (omega arith)
of_all_pools P each Bru = each 5 Alu (omega arith)
