use Rattle.tomex_rvdec.proofs.Fitting.{fitting}
use Rattle.tomex_rvdec.proofs.laws.what_fits_is_an_instruction.Goals as goal

pub returns : goal.returns
returns c = fitting
