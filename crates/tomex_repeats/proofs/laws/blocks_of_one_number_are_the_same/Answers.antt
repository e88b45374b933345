-- By induction over the steps of the blocks.
use Rattle.tomex_repeats.proofs.ComesBack.{blocks_come_back}
use Rattle.tomex_repeats.proofs.SameBlocks.{blocks_same}
use Rattle.tomex_repeats.proofs.laws.blocks_of_one_number_are_the_same.Goals as goal

pub returns : goal.returns
returns c = record { steps = blocks_same; runs = blocks_come_back }
