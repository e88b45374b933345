-- There is an end for each program.
use Rattle.std.proofs.lemmas.Grind.{common_steps}
use Rattle.std.proofs.Common.{◌∙◌, arith, refl, sym}
use Rattle.std.proofs.lemmas.List.{append-nil, drop_all}
use Rattle.std.proofs.lemmas.Slice.Zip.{AllZip-long}
use Rattle.tomex_report.proofs.Zips.{at_both}
use Rattle.tomex_report.proofs.front_text.put_programs.Goals as goal

pub offset_bounds-ends-place : goal.offset_bounds-ends-place
offset_bounds-ends-place g c =
    let long = AllZip-long _ c.args.programs.now c.args.ends.now c.requires.ends in
    let within = c.loop-place-test.true in
    omega (arith, long, within)

pub bounds-ends-place : goal.bounds-ends-place
bounds-ends-place g c =
    let long = AllZip-long _ c.args.programs.now c.args.ends.now c.requires.ends in
    let within = c.loop-place-test.true in
    omega (arith, long, within)

pub fill_record-requires : goal.fill_record-requires
fill_record-requires g c = at_both _ c.args.programs.now c.args.ends.now c.loop-place.place
    c.index-programs-place.result c.index-ends-place.result c.requires.ends c.loop-place-test.true
    c.index-programs-place.is c.index-ends-place.is

pub loop-place-init : goal.loop-place-init
loop-place-init g c = record { ready = c.requires.ready; text = refl }

pub returns-clause-ready : goal.returns-clause-ready
returns-clause-ready g c = c.loop-place.invariant.ready

pub returns-clause-text : goal.returns-clause-text
returns-clause-text g c = sym (append-nil _)
    ∙ (rw (drop_all c.loop-place.place c.args.programs.now c.loop-place-test.false) at c.loop-place.invariant.text)

pub loop-place-preserved : goal.loop-place-preserved
loop-place-preserved = grind (arith, common_steps)
