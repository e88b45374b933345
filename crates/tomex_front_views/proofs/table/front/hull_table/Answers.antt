-- The rows on the hull are rows of the study.
use Rattle.std.proofs.Common.{◌∙◌}
use Rattle.std.proofs.lemmas.Result.{IfOk-weaker}
use Rattle.tomex_front_views.proofs.Hulls.{hull_rows}
use Rattle.tomex_front_views.proofs.table.front.hull_table.Goals as goal

pub rows_table-requires : goal.rows_table-requires
rows_table-requires g c =
    let made = c.as_slice.ensures.value ∙ c.in_ok-rows.ensures in
    rw (made, c.front.ensures.value) (hull_rows c.args.surveyed.now c.keeps_limits.ensures)

pub returns : goal.returns
returns g c =
    let made = c.as_slice.ensures.value ∙ c.in_ok-rows.ensures in
    let is = rw (made, c.front.ensures.value) at c.rows_table.ensures in
    IfOk-weaker c.rows_table.result _ _ (λ text t. t) is
