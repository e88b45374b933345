use Rattle.std.proofs.Common.{rules}
use Rattle.tomex_rvexec.proofs.fetcher.instruction_at.Goals as goal

pub returns : goal.returns
returns g c = search rules fits 100
