-- Looks at a running configuration. After each 1,024 cycles, while the run isn't over, a worker tests if the
-- configuration can still be on the front: it can't if a finished one that costs no more took fewer weighted cycles
-- than this one has made.
use Rattle.std.specs.Prelude.{◌≡◌, ℕ, ◌+◌, ◌-◌, ◌*◌, ◌/◌, ◌<◌, ◌≤◌, min, nat_lt, if◌then◌else◌, sum_by}
use Rattle.std.specs.Prelude.{List, [], ◌∷◌, Option, Some, None}
use Rattle.tomex_config.specs.Configuration.{Configuration}
use Rattle.tomex_timing.specs.Run.{total}
use Rattle.tomex_study.specs.Program.{Workload}
use Rattle.tomex_study.specs.Cycles.{cycles_on}
use Rattle.tomex_plateaus.specs.declared.known_row.KnownRow.{KnownRow}

-- the cycles that the programs' runs on a configuration make, one after another
unfoldable pub plain_on : List Workload → Configuration → ℕ
plain_on programs config = sum_by (λ p. total config p.image) programs

-- the first n cycles that these runs make, each times its program's weight
unfoldable pub weighted_cycles : List Workload → Configuration → ℕ → ℕ
weighted_cycles [] config n = 0
weighted_cycles (p ∷ ps) config n =
    p.weight * min n (total config p.image) + weighted_cycles ps config (n - total config p.image)

-- the last look at a run of n cycles: the greatest multiple of 1,024 before its end
abbrev pub last_look : ℕ → ℕ
last_look n = 1024 * ((n - 1) / 1024)

-- the cycles that a configuration has made then, none if its run is over before the first look
abbrev pub made_at_last_look : List Workload → Configuration → Option ℕ
made_at_last_look programs config =
    if nat_lt 1024 (plain_on programs config)
    then Some (weighted_cycles programs config (last_look (plain_on programs config)))
    else None

-- a row's cycles, and those that it has made at its last look
pub record IsKnownRow (programs : List Workload) (config : Configuration) (row : KnownRow) : Type 0 where
  pub cycles : row.cycles ≡ cycles_on programs config
  pub at_last_look : row.at_last_look ≡ made_at_last_look programs config

-- at no look has a configuration made more cycles than at the last one, and at that one no more than all of its own
abbrev pub LastLookSeesMost : Type 0
LastLookSeesMost = (programs : List Workload) (config : Configuration) (look : ℕ)
    → 1024 * look < plain_on programs config
    → (weighted_cycles programs config (1024 * look)
    ≤ weighted_cycles programs config (last_look (plain_on programs config)))
    × (weighted_cycles programs config (last_look (plain_on programs config)) ≤ cycles_on programs config)
