-- The links so far, and those of the steps that are left.
use Rattle.std.proofs.Common.{◌≡◌, ◌-◌, ◌++◌, List, take}
use Rattle.tomex_rvexec.specs.declared.step.Step.{Step}
use Rattle.tomex_config.specs.Configuration.{Configuration}
use Rattle.tomex_timing.specs.Search.{history}
use Rattle.tomex_path.specs.declared.event.Holder.TheVariants.{Last}
use Rattle.tomex_path.specs.Path.{links}
use Rattle.tomex_path.specs.Seen.{IsEvaluated}
use Rattle.tomex_path.proofs.walk.links_of.Given as goal

abbrev pub invariant-loop-passed : goal.invariant-loop-passed
invariant-loop-passed g l =
    (config : Configuration) (steps : List Step) → IsEvaluated config steps l.facts l.times l.notes
    → links config Last (history config steps)
    ≡ l.result.items ++ links config l.by (history config (take (l.count - l.passed) steps))
