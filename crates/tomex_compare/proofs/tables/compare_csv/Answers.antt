-- The groups of the programs at the two places.
use Rattle.std.proofs.Common.{◌∙◌}
use Rattle.std.proofs.lemmas.Result.{IfOk-weaker}
use Rattle.tomex_compare.proofs.Printed.{printed_csv}
use Rattle.tomex_compare.proofs.tables.compare_csv.Goals as goal

pub returns : goal.returns
returns g c =
    let s = c.args.surveyed.now in
    let old = rw c.build_at-old.ensures.place at c.build_at-old.ensures.build in
    let new = rw c.build_at-new.ensures.place at c.build_at-new.ensures.build in
    IfOk-weaker c.group_csv.result _ _
    (λ text is. printed_csv s c.args.old c.args.new c.build_at-old.result.program.now c.build_at-new.result.program.now
    text.items c.as_slice.result.now old new (c.as_slice.ensures.value ∙ c.in_ok-groups.ensures) is)
    c.group_csv.ensures
