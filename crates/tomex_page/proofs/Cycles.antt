-- The cycles of a run are its waits to issue, its drain and 1.
use Rattle.std.proofs.Common.{◌≡◌, ◌+◌, ◌<◌, arith, List, [], ◌∷◌, length}
use Rattle.tomex_config.specs.Configuration.{Configuration, IsWithinLimits}
use Rattle.tomex_timing.specs.History.{greatest_end}
use Rattle.tomex_timing.specs.Recurrence.{AreTimed}
use Rattle.tomex_timing.specs.Search.{history}
use Rattle.tomex_timing.specs.declared.times.Done.{Done}
use Rattle.tomex_timing.proofs.Accounts.{issue_cycles}
use Rattle.tomex_timing.proofs.Histories.{are_timed, length-history}
use Rattle.tomex_study.specs.Program.{steps_of}
use Rattle.tomex_page.specs.Laws.{CyclesAddUp, cycles_before_issue}
use Rattle.tomex_page.specs.Runs.{needs_in, needs_on}
use Rattle.tomex_page.specs.Stalls.{pool_parts}

of_history : (config : Configuration) (h : List Done) → IsWithinLimits config → AreTimed config h → 0 < length h
    → cycles_before_issue (needs_in config h) + 1 ≡ greatest_end h
unfolding pool_parts
of_history config [] good timed some = absurd (omega (arith, some))
of_history config (d ∷ older) good timed some =
    let accounted = issue_cycles config d older good timed in
    omega arith

pub cycles_add_up : CyclesAddUp
unfolding needs_on
cycles_add_up config p good some =
    of_history config (history config (steps_of p)) good (are_timed config (steps_of p) good)
    (omega (arith, length-history config (steps_of p)))
