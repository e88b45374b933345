-- The rows of the front are rows of the study.
use Rattle.std.proofs.Common.{subst, sym, All, List, arith}
use Rattle.std.proofs.lemmas.Grind.{common_steps}
use Rattle.std.specs.List.{Contains}
use Rattle.tomex_pareto.specs.declared.line_row.LineRow.{LineRow}
use Rattle.tomex_weights.specs.Spans.{rows_by_weight}
use Rattle.tomex_weights.proofs.columns.column.Goals as goal

pub span_by-span-requires-clause-front : goal.span_by-span-requires-clause-front
span_by-span-requires-clause-front g c =
    subst (λ (lines : List LineRow). All (Contains (rows_by_weight c.args.surveyed.now c.args.place)) lines)
    (sym c.as_slice.ensures.value) c.in_ok-front.ensures.there

pub returns : goal.returns
returns = grind (arith, common_steps)

pub span_by-span-requires-clause-front_room : goal.span_by-span-requires-clause-front_room
span_by-span-requires-clause-front_room = grind (arith, common_steps)

pub loop-row-preserved : goal.loop-row-preserved
loop-row-preserved = grind (arith, common_steps)

pub span_by-span-requires-clause-room : goal.span_by-span-requires-clause-room
span_by-span-requires-clause-room = grind (arith, common_steps)
