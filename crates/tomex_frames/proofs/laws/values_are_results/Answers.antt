-- The first later step that reads a register has what the youngest step before it wrote.
use Rattle.tomex_frames.proofs.ValueResults.{values_are_results}
use Rattle.tomex_frames.proofs.laws.values_are_results.Goals as goal

pub returns : goal.returns
returns c = values_are_results
