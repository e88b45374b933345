-- A machine's advance to a cycle.
use Rattle.std.specs.Prelude.{ℕ, ◌≡◌, ◌≢◌, ◌≤◌, max}
use Rattle.tomex_cycle.specs.declared.progress.Progress.TheVariants.{Running}
use Rattle.tomex_cycle.specs.Events.{IsCounted}
use Rattle.tomex_cycle.specs.Run.{EndsWithinLimit}
use Rattle.tomex_timing.specs.Run.{run_of}
use Rattle.tomex_cycle.specs.Seen.{Machine, seen, seen_after}

-- The machine has advanced to the cycle `to`, or less far if it has ended or faulted. If its program ends within the
-- limit, the machine, except for its count, is the one that the recurrence gives for that cycle, and its count has
-- risen by at least the number of cycles passed in which anything happens, and by at most one more than twice their
-- events.
pub record AdvancesTo (to : ℕ) (old new : Machine) : Type 0 where
  pub image : new.image ≡ old.image
  pub config : new.config ≡ old.config
  pub not_back : old.cycle ≤ new.cycle
  pub not_past : new.cycle ≤ max old.cycle to
  pub there_if_running : new.status ≡ Running → new.cycle ≡ max old.cycle to
  pub same_if_over : old.status ≢ Running → new ≡ old
  pub same_if_there : to ≤ old.cycle → new ≡ old
  pub after_ticks : EndsWithinLimit old.image → seen new ≡ seen_after old.image old.config (max old.cycle to)
  pub cycles_made : EndsWithinLimit old.image
      → IsCounted (run_of old.config old.image) old.cycle new.cycle old.cycles_made new.cycles_made
