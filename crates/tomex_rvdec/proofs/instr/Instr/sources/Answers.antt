use Rattle.std.proofs.Common.{rules}
use Rattle.tomex_rvdec.proofs.instr.Instr.sources.Goals as goal

pub returns-in-Upper-clause-value : goal.returns-in-Upper-clause-value
returns-in-Upper-clause-value c = search rules fits 100
