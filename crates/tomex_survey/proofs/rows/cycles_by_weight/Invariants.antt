-- The cycles of the programs so far.
use Rattle.std.proofs.Common.{◌≡◌, take}
use Rattle.tomex_config.specs.Configuration.{Configuration}
use Rattle.tomex_study.specs.Cycles.{cycles_on, totals_on}
use Rattle.tomex_survey.proofs.rows.cycles_by_weight.Given as goal

abbrev pub invariant-loop-place : goal.invariant-loop-place
invariant-loop-place g l = (config : Configuration) → l.totals ≡ totals_on l.programs config
    → l.cycles ≡ cycles_on (take l.place l.programs) config
