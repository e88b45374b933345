-- The line of one row more.
use Rattle.std.proofs.Common.{arith}
use Rattle.std.proofs.lemmas.Grind.{common_steps}
use Rattle.tomex_layout.proofs.Loops.{item_more}
use Rattle.tomex_pareto.specs.declared.front_row.FrontRow.{FrontRow}
use Rattle.tomex_pareto.specs.Spans.{HasRoom}
use Rattle.tomex_weights.specs.Spans.{by_weight}
use Rattle.tomex_weights.proofs.Turns.{all_more}
use Rattle.tomex_weights.proofs.line_rows.lines_of.Goals as goal

pub loop-row-preserved : goal.loop-row-preserved
loop-row-preserved g c =
    let none : FrontRow = record { row = 0; cost = 0; cycles = 0 } in
    record {
      rows = item_more (by_weight c.args.surveyed.now c.args.place) c.args.rows.now c.loop-row.row-index none
          c.by_weight.result c.loop-row.lines.items c.push.new.self.items _ c.loop-row-test.true
          c.in_ok-push.ensures.items c.by_weight.ensures.line c.loop-row.invariant.rows;
      room = all_more HasRoom c.loop-row.lines.items c.push.new.self.items c.by_weight.result c.in_ok-push.ensures.items
          c.loop-row.invariant.room c.by_weight.ensures.room;
    }

pub returns-clause-rows : goal.returns-clause-rows
returns-clause-rows = grind (arith, common_steps)
