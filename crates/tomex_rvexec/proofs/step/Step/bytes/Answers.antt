use Rattle.std.proofs.Common.{rules}
use Rattle.tomex_rvexec.proofs.step.Step.bytes.Goals as goal

pub returns : goal.returns
returns c = search rules fits 100
