-- The tables of the programs at the two places.
use Rattle.std.proofs.Common.{◌∙◌}
use Rattle.tomex_compare.proofs.Printed.{printed}
use Rattle.tomex_compare.proofs.tables.compare_table.Goals as goal

pub returns : goal.returns
returns g c =
    let s = c.args.surveyed.now in
    let old = rw c.build_at-old.ensures.place at c.build_at-old.ensures.build in
    let new = rw c.build_at-new.ensures.place at c.build_at-new.ensures.build in
    printed s c.args.old c.args.new c.build_at-old.result.program.now c.build_at-new.result.program.now
    c.in_ok-text.text.items c.as_slice-2.result.now _ _ c.as_slice.result.now old new c.in_ok-text.ensures
    (c.as_slice.ensures.value ∙ c.in_ok-groups.ensures) (c.as_slice-2.ensures.value ∙ c.in_ok-second.ensures)
    c.in_ok-push.ensures.items c.in_ok-extend_from_slice.ensures.items
