-- The prologue has the facts of one that loads zeros, which is drained.
use Rattle.tomex_drained.proofs.Whole.{end_adds_one, image_takes_both, part_adds_its_cycles}
use Rattle.tomex_drained.proofs.laws.a_part_takes_its_own_cycles.Goals as goal

pub returns : goal.returns
returns c = record { steps = part_adds_its_cycles; run = image_takes_both; end = end_adds_one }
