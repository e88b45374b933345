use Rattle.std.proofs.Common.{rules}
use Rattle.tomex_rvdec.proofs.instr.Instr.unit.Goals as goal

pub returns-in-Load : goal.returns-in-Load
returns-in-Load c = search rules fits 100
