-- By induction over the block.
use Rattle.tomex_alike.proofs.Blocks.{blocks_repeat}
use Rattle.tomex_alike.proofs.laws.blocks_repeat_themselves.Goals as goal

pub returns : goal.returns
returns c = blocks_repeat
