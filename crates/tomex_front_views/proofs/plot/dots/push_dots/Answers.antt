-- One more column.
use Rattle.std.proofs.Common.{◌+◌, ap, refl, sym, subst, List, ℕ, ◌++◌}
use Rattle.std.specs.Prelude.{string_bytes}
use Rattle.std.specs.List.{flat_map}
use Rattle.tomex_front_views.specs.Dots.{IsTable, column_text, dots, has_dot}
use Rattle.tomex_front_views.proofs.Dotted.{column_is, none_above}
use Rattle.tomex_front_views.proofs.Strokes.{column_more, columns_over, from_left}
use Rattle.tomex_front_views.proofs.plot.dots.push_dots.Goals as goal

pub loop-column-init : goal.loop-column-init
unfolding dots
loop-column-init g c =
    ap (λ (ns : List ℕ). string_bytes c.args.text.now
    ++ flat_map (λ x. column_text (has_dot c.args.axes.now c.args.rows.now x) x) ns) (sym from_left)

pub loop-column-preserved : goal.loop-column-preserved
loop-column-preserved g c =
    let table : IsTable c.args.axes.now c.args.rows.now c.as_slice-marks.result.now =
    subst (IsTable c.args.axes.now c.args.rows.now) (sym c.as_slice-marks.ensures.value) c.in_ok-table.ensures in
    column_more (λ x. column_text (has_dot c.args.axes.now c.args.rows.now x) x) c.loop-column.column _ _ _
    c.loop-column-test.true
    (c.in_ok-push_column.ensures (has_dot c.args.axes.now c.args.rows.now (136 + c.loop-column.column))
    (none_above c.args.axes.now c.args.rows.now _)
    (column_is c.args.axes.now c.args.rows.now _ c.loop-column.column _ table c.loop-column-test.true refl))
    c.loop-column.invariant

pub returns : goal.returns
returns g c =
    columns_over (λ x. column_text (has_dot c.args.axes.now c.args.rows.now x) x) c.loop-column.column _ _
    c.loop-column-test.false c.loop-column.invariant
