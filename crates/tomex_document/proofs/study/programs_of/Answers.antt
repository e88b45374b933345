-- The files before the current one are programs; it is one more, or the first that is refused.
use Rattle.std.proofs.Common.{arith}
use Rattle.std.proofs.lemmas.Grind.{common_steps}
use Rattle.tomex_document.proofs.Studies.{all_programs, first_refusal, item_is, pushed, seen_is}
use Rattle.tomex_document.proofs.study.programs_of.Goals as goal

pub returns-in-Err-clause-err : goal.returns-in-Err-clause-err
returns-in-Err-clause-err g c =
    first_refusal c.loop-place.place c.args.entries.now _ _
    (item_is _ _ _ c.loop-place-test.true c.index-entries-place.is)
    (seen_is _ c.args.files.now _ _ c.index-files-place.result _ c.requires c.loop-place-test.true
    c.index-files-place.is c.as_slice.ensures.value)
    c.loop-place.invariant
    c.in-Err.ensures.err

pub loop-place-preserved : goal.loop-place-preserved
loop-place-preserved g c =
    pushed c.loop-place.place c.args.entries.now _ _ _
    (item_is _ _ _ c.loop-place-test.true c.index-entries-place.is)
    (seen_is _ c.args.files.now _ _ c.index-files-place.result _ c.requires c.loop-place-test.true
    c.index-files-place.is c.as_slice.ensures.value)
    c.loop-place.invariant
    c.in-Ok.ensures.ok
    c.in_ok-push-in-Ok.ensures.items

pub loop-place-init : goal.loop-place-init
loop-place-init g c = rw c.new-programs.ensures.items tt

pub returns-clause-ok : goal.returns-clause-ok
returns-clause-ok g c = all_programs _ c.loop-place.place c.args.entries.now c.args.files.now _ c.requires
    c.loop-place-test.false c.loop-place.invariant

pub bounds-files-place : goal.bounds-files-place
bounds-files-place = grind (arith, common_steps)
