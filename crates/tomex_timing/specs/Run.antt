-- A program's run on a configuration: the steps of its in-order run, with their times by the recurrence.
use Rattle.std.specs.Prelude.{ℕ, List}
use Rattle.tomex_image.specs.Image.{Loaded}
use Rattle.tomex_rvexec.specs.Run.{most_steps, start_of}
use Rattle.tomex_rvexec.specs.Trace.{steps_from}
use Rattle.tomex_config.specs.Configuration.{Configuration}
use Rattle.tomex_timing.specs.declared.times.Done.{Done}
use Rattle.tomex_timing.specs.History.{greatest_end}
use Rattle.tomex_timing.specs.Search.{history}

-- the whole run of a program that ends within the most steps, the youngest step first
unfoldable pub run_of : Configuration → Loaded → List Done
run_of config i = history config (steps_from most_steps (start_of i))

-- the most cycles that it takes, at 67 for each of the most steps
abbrev pub most_cycles : ℕ
most_cycles = 17563648

-- the cycles that it takes
abbrev pub total : Configuration → Loaded → ℕ
total config i = greatest_end (run_of config i)
