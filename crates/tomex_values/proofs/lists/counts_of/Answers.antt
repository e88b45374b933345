-- The counts are read in order, up to the first fault.
use Rattle.std.proofs.Common.{sym, arith}
use Rattle.std.proofs.lemmas.Grind.{common_steps}
use Rattle.std.proofs.lemmas.Result.{err_from_is_err_and}
use Rattle.tomex_values.specs.Numbers.{between, number_of}
use Rattle.tomex_values.proofs.Items.{each_end, each_fault}
use Rattle.tomex_values.proofs.lists.counts_of.Goals as goal

pub returns-in_err-count : goal.returns-in_err-count
returns-in_err-count g c =
    let p = err_from_is_err_and c.from_residual.result c.from_residual.ensures.1 in
    let fault = sym (rw (c.between.ensures, c.from.ensures) at c.in_err-count.ensures.read) in
    rw (p.1, p.2) (λ other. each_fault (number_of c.args.place c.args.key (between 1 c.args.most)) _ _ _
    c.loop-value-test.true c.value-item.is fault c.loop-value.invariant)

pub returns : goal.returns
returns g c = each_end (number_of c.args.place c.args.key (between 1 c.args.most)) _ _ _ _ c.loop-value-test.false
    c.loop-value.invariant

pub loop-value-preserved : goal.loop-value-preserved
loop-value-preserved = grind (arith, common_steps)
