-- A machine as contracts see it, and the same without the count of its cycles.
use Rattle.std.specs.Prelude.{ℕ, ◌≡◌, Bool, true, false, nat_lt, if◌then◌else◌, min}
use Rattle.tomex_image.specs.Image.{Loaded}
use Rattle.tomex_config.specs.Configuration.{Configuration}
use Rattle.tomex_cycle.specs.declared.progress.Progress.{Progress}
use Rattle.tomex_cycle.specs.declared.progress.Progress.TheVariants.{Running, Ended, Faulted}
use Rattle.tomex_cycle.specs.Run.{EndsWithinLimit}
use Rattle.tomex_timing.specs.Run.{total}

-- the cycle is the one that the machine has reached, and the status is the one after it
pub record Machine : Type 0 where
  pub image : Loaded
  pub config : Configuration
  pub cycle : ℕ
  pub status : Progress
  pub cycles_made : ℕ

-- a machine without the number of cycles that it has made: skipped ones are not made
pub record Seen : Type 0 where
  pub image : Loaded
  pub config : Configuration
  pub cycle : ℕ
  pub status : Progress

abbrev pub seen : Machine → Seen
seen m = record { image = m.image; config = m.config; cycle = m.cycle; status = m.status }

-- the machine of an image and a configuration after advancing to cycle k, if the program ends: it stops at its total
abbrev pub seen_after : Loaded → Configuration → ℕ → Seen
seen_after i config k = record {
  image = i;
  config = config;
  cycle = min k (total config i);
  status = if nat_lt k (total config i) then Running else Ended;
}

-- if its program ends, the machine is the one that has advanced to its cycle from the start
abbrev pub IsInStep : Machine → Type 0
IsInStep m = EndsWithinLimit m.image → seen m ≡ seen_after m.image m.config m.cycle

-- the machine of an image and a configuration that has made no cycle
abbrev pub before_first_cycle : Loaded → Configuration → Seen
before_first_cycle i config = record { image = i; config = config; cycle = 0; status = Running }

abbrev pub is_end : Progress → Bool
is_end Running = false
is_end Ended = true
is_end (Faulted fault) = false
