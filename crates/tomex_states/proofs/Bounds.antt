-- The cycles of a state that can be kept are small enough to be moved.
use Rattle.std.proofs.Common.{ℕ, ◌+◌, ◌-◌, ◌^◌, ◌<◌, ◌≤◌, ◌≡◌, inl, inr, arith, All, List}
use Rattle.std.specs.Prelude.{slice_index}
use Rattle.std.proofs.lemmas.Bool.{cases_lt}
use Rattle.std.proofs.lemmas.List.Elements.{All-from_get_or}
use Rattle.tomex_rvdec.specs.declared.pool.PoolId.{PoolId}
use Rattle.tomex_rvdec.specs.declared.pool.PoolId.TheVariants.{Alu, Mul, Div, Load, Store, Bru}
use Rattle.tomex_config.specs.Configuration.{Configuration, IsWithinLimits}
use Rattle.tomex_reservations.specs.Reservations.{station_place}
use Rattle.tomex_timing.specs.declared.times.Done.{Done}
use Rattle.tomex_timing.specs.History.{greatest_end}
use Rattle.tomex_timing.proofs.Bound.{timed_by}
use Rattle.tomex_alike.proofs.UpToEnd.{access_by}
use Rattle.tomex_states.specs.Reuse.{CanBeKept, IsHistory, access_from}
use Rattle.tomex_states.specs.States.{ShowsState}
use Rattle.tomex_states.specs.declared.state.State.{State}
use Rattle.tomex_states.proofs.Alike.{access_is}
use Rattle.tomex_states.proofs.Moved.{first_by}

-- each place of a station is that of a pool's
station_at : (i : ℕ) → i < 96 → (pool : PoolId) × (n : ℕ) × (n < 16) × (station_place pool n ≡ i)
station_at i l = elim (cases_lt i 16) [
  | inl k ↦ (Alu, i, k, omega arith)
  | inr a ↦ elim (cases_lt i 32) [
    | inl k ↦ (Mul, i - 16, omega arith, omega arith)
    | inr b ↦ elim (cases_lt i 48) [
      | inl k ↦ (Div, i - 32, omega arith, omega arith)
      | inr c ↦ elim (cases_lt i 64) [
        | inl k ↦ (Load, i - 48, omega arith, omega arith)
        | inr d ↦ elim (cases_lt i 80) [
          | inl k ↦ (Store, i - 64, omega arith, omega arith)
          | inr e ↦ (Bru, i - 80, omega arith, omega arith)
        ]
      ]
    ]
  ]
]

module _ {A : Type 0} (config : Configuration) (by : ℕ) (state : State A) (g : List Done)
    (small : state.recent.latest.end + by < 2 ^ 63) (shows : ShowsState config g state) where
  pub ends_fit : All (λ end. end + by < 2 ^ 64) state.recent.latest.ends
  ends_fit = All-from_get_or (λ end. end + by < 2 ^ 64) state.recent.latest.ends 0
      (λ r l. let k = shows.held.settled.ends r (omega (arith, shows.held.latest.count)) in omega arith)

  pub stations_fit : All (λ end. end + by < 2 ^ 64) state.recent.stations.ends
  stations_fit = All-from_get_or (λ end. end + by < 2 ^ 64) state.recent.stations.ends 0 (λ i l.
      let at = station_at i (omega (arith, shows.held.holds.size)) in
      let k : slice_index state.recent.stations.ends i ≤ state.recent.latest.end =
      rw at.3 at (shows.held.settled.stations at.0 at.1 at.2) in
      omega arith)

  access_low : access_from config state ≤ state.recent.latest.end + 3
  access_low =
      let settled = shows.held.settled in
      omega (arith, first_by config state.recent.latest settled.issue settled.branch, settled.address)

  pub finishes_fit : IsWithinLimits config → IsHistory config g
      → All (λ finish. finish + by < 2 ^ 64) state.window.finishes
  finishes_fit good of_g = All-from_get_or (λ finish. finish + by < 2 ^ 64) state.window.finishes 0 (λ i l. omega (
    arith,
    shows.window.finishes i (omega (arith, shows.window.count)),
    access_by (greatest_end g) g i (timed_by config g good of_g.timed),
    access_is config g state shows,
    access_low,
    shows.held.latest.end,
  ))

  pub older_fits : CanBeKept config state → state.window.older + by < 2 ^ 64
  older_fits kept = omega (arith, kept.older, access_low)
