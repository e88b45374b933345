-- The rows on the hull are rows of the front.
use Rattle.std.proofs.Common.{◌∙◌, ◌<◌, length, arith}
use Rattle.std.proofs.lemmas.Grind.{common_steps}
use Rattle.std.proofs.lemmas.List.Elements.{All-filter}
use Rattle.tomex_pareto.specs.Hull.{hull_of, is_unmixed}
use Rattle.tomex_pareto.specs.declared.front_row.FrontRow.{FrontRow}
use Rattle.tomex_texts.proofs.rows_text.rows_report.Goals as goal

pub flags-requires-2 : goal.flags-requires-2
unfolding hull_of
flags-requires-2 g c =
    rw (c.as_slice.ensures.value ∙ c.in_ok-hull.ensures, c.rows.ensures.count)
    (All-filter (is_unmixed c.front-front.result.now) (λ (r : FrontRow). r.row < length c.args.surveyed.now.rows) _
    c.front-front.ensures.within)

pub put_rows-requires-clause-front : goal.put_rows-requires-clause-front
put_rows-requires-clause-front = grind (arith, common_steps)

pub put_rows-requires-clause-hull : goal.put_rows-requires-clause-hull
put_rows-requires-clause-hull = grind (arith, common_steps)
