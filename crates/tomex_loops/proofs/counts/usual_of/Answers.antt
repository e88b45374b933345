-- Each turn takes the next number.
use Rattle.std.proofs.Common.{◌∙◌, ◌+◌, Bool, ap, arith, take_all}
use Rattle.std.specs.Prelude.{if◌then◌else◌}
use Rattle.tomex_loops.proofs.AtPlaces.{none_yet, so_far_more}
use Rattle.tomex_loops.proofs.counts.usual_of.Goals as goal

pub loop-k-init : goal.loop-k-init
loop-k-init c = none_yet c.args.sorted.now

pub loop-k-preserved : goal.loop-k-preserved
loop-k-preserved c =
    let same = c.note.ensures.same
    ∙ ap (λ (b : Bool). if b then 1 else c.loop-k.so_far.same + 1) c.is_new.ensures in
    so_far_more c.args.sorted.now c.loop-k.k c.loop-k.so_far.same c.loop-k.so_far.alike
    c.loop-k.so_far.usual _ _ _ c.requires.order c.loop-k-test.true c.loop-k.invariant same c.note.ensures.alike
    c.note.ensures.usual

pub returns-clause-alike : goal.returns-clause-alike
returns-clause-alike c =
    let all = take_all c.loop-k.k c.args.sorted.now c.loop-k-test.false in rw all at c.loop-k.invariant.alike

pub returns-clause-usual : goal.returns-clause-usual
returns-clause-usual c =
    let all = take_all c.loop-k.k c.args.sorted.now c.loop-k-test.false in rw all at c.loop-k.invariant.usual

pub returns-clause-first : goal.returns-clause-first
returns-clause-first c = λ n below.
    let all = take_all c.loop-k.k c.args.sorted.now c.loop-k-test.false in
    rw all at (c.loop-k.invariant.first n below (omega (arith, c.requires.some, c.loop-k-test.false)))
