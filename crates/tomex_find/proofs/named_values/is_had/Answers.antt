-- A row that doesn't have it.
use Rattle.std.proofs.Common.{◌∙◌, ◌<◌, ap, arith, length, sym}
use Rattle.tomex_find.specs.Find.{has_choice}
use Rattle.tomex_find.proofs.FoundLoops.{any_after}
use Rattle.tomex_find.proofs.named_values.is_had.Goals as goal

pub loop-row-preserved : goal.loop-row-preserved
loop-row-preserved g c =
    let l = c.loop-row-test.true in
    let e = ap length c.rows-row-end.ensures.value in
    let within : c.loop-row.row < length c.args.study.now.rows = omega (arith, l, e) in
    sym (any_after (λ k. has_choice c.args.study.now k c.args.word.now) c.loop-row.row (length c.args.study.now.rows)
    within (sym c.in_ok-has_choice.ensures ∙ c.if-branch.false)) ∙ c.loop-row.invariant
