-- The entry of one row more.
use Rattle.std.proofs.Common.{◌∙◌, ap, arith}
use Rattle.std.proofs.lemmas.Grind.{common_steps}
use Rattle.tomex_layout.specs.Table.{TableColumn}
use Rattle.tomex_layout.proofs.Loops.{item_more}
use Rattle.tomex_pareto.specs.declared.front_row.FrontRow.{FrontRow}
use Rattle.tomex_weights.specs.Spans.{span_of}
use Rattle.tomex_weights.specs.Texts.{span_text}
use Rattle.tomex_weights.proofs.table.weight_column.Goals as goal

pub loop-row-preserved : goal.loop-row-preserved
loop-row-preserved g c =
    let none : FrontRow = record { row = 0; cost = 0; cycles = 0 } in
    let grown = ap (λ (x : TableColumn). x.entries) c.in_ok-push-2.ensures.one in
    record {
      name = ap (λ (x : TableColumn). x.name) c.in_ok-push-2.ensures.one ∙ c.loop-row.invariant.name;
      entries = item_more (λ r. span_text (span_of c.args.surveyed.now c.args.spans.now.place r)) c.args.rows.now
          c.loop-row.row-index none _ _ _ _ c.loop-row-test.true grown
          (c.in_ok-span_text.ensures ∙ ap span_text c.span_at-span.ensures) c.loop-row.invariant.entries;
    }

pub span_at-span-requires-clause-row : goal.span_at-span-requires-clause-row
span_at-span-requires-clause-row = grind (arith, common_steps)
