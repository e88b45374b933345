-- The bytes of one more range.
use Rattle.std.proofs.Common.{arith, refl}
use Rattle.std.proofs.lemmas.Grind.{common_steps}
use Rattle.tomex_texts.specs.Ends.{bytes_at}
use Rattle.tomex_texts.proofs.Loops.{piece_more}
use Rattle.tomex_report.proofs.program_ends.ranges_bytes.Goals as goal

pub loop-range-preserved : goal.loop-range-preserved
loop-range-preserved g c =
    piece_more (bytes_at c.args.window.base c.args.memory.now) c.args.ranges.now c.loop-range.range-index _
    (record { address = 0; length = 0 }) _ _ _ c.loop-range-test.true refl c.in_ok-extend_from_slice.ensures.items
    c.range_bytes.ensures c.loop-range.invariant

pub returns : goal.returns
returns = grind (arith, common_steps)
