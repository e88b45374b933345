-- After the greatest end nothing is under way, and the next step may issue in the next cycle.
use Rattle.tomex_drained.proofs.Drained.{branches_drain, drained_looks_empty}
use Rattle.tomex_drained.proofs.laws.branches_drain_what_has_ended.Goals as goal

pub returns : goal.returns
returns c = record { drained = branches_drain; alike = drained_looks_empty }
