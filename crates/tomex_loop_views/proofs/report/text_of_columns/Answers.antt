-- The lines are those of the rows.
use Rattle.std.proofs.Common.{map}
use Rattle.std.proofs.lemmas.Result.{IfOk-weaker}
use Rattle.tomex_loop_views.specs.Table.{line_of}
use Rattle.tomex_loop_views.proofs.report.text_of_columns.Goals as goal

pub returns : goal.returns
returns g c =
    IfOk-weaker c.table_of.result _ _ (λ text is. record {
      lines = map line_of c.in_ok-rows.rows.items;
      those = c.in_ok-rows.ensures.those;
      order = c.in_ok-rows.ensures.order;
      text_is = rw (c.deref.ensures.value, c.deref-2.ensures.value, c.deref-3.ensures.value) at is;
    }) c.table_of.ensures
