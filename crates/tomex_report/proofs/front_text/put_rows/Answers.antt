-- There are ends for each row of the front.
use Rattle.std.proofs.lemmas.Grind.{common_steps}
use Rattle.std.proofs.Common.{arith}
use Rattle.std.proofs.lemmas.Slice.Zip.{AllZip-long}
use Rattle.tomex_texts.proofs.Records.{at_read}
use Rattle.tomex_report.proofs.front_text.put_rows.Goals as goal

pub offset_bounds-ends-place : goal.offset_bounds-ends-place
offset_bounds-ends-place g c =
    let long = AllZip-long _ c.args.front.now c.args.ends.now c.requires.ends in
    let within = c.loop-place-test.true in
    omega (arith, long, within)

pub bounds-ends-place : goal.bounds-ends-place
bounds-ends-place g c =
    let long = AllZip-long _ c.args.front.now c.args.ends.now c.requires.ends in
    let within = c.loop-place-test.true in
    omega (arith, long, within)

pub put_row-requires-clause-ends : goal.put_row-requires-clause-ends
put_row-requires-clause-ends g c =
    at_read _ c.args.front.now c.args.ends.now c.loop-place.place _ c.index-ends-place.result c.requires.ends
    c.loop-place-test.true c.index-ends-place.is

pub returns-clause-text : goal.returns-clause-text
returns-clause-text = grind (arith, common_steps)

pub loop-place-preserved : goal.loop-place-preserved
loop-place-preserved = grind (arith, common_steps)
