-- The table of the loops that are defined.
use Rattle.std.proofs.Common.{◌∙◌, ap, arith, length, List}
use Rattle.std.proofs.lemmas.Result.{IfOk-weaker}
use Rattle.tomex_timing.specs.declared.times.Times.{Times}
use Rattle.tomex_stretches.proofs.Totals.{floors_fit}
use Rattle.tomex_loops.specs.Runs.{innermost_of}
use Rattle.tomex_loop_views.specs.Lines.{outside_sums, total_sums}
use Rattle.tomex_loop_views.proofs.LoopLines.{all, floors, lines, outside}
use Rattle.tomex_loop_views.proofs.report.table_with.Goals as goal

pub columns_of-requires-clause-keys : goal.columns_of-requires-clause-keys
columns_of-requires-clause-keys g c =
    c.deref.ensures.value ∙ (rw (c.visits.ensures, c.innermost.ensures) at c.in_ok-keys.ensures)

pub total_of-all-requires : goal.total_of-all-requires
total_of-all-requires g c =
    let loops = c.requires.loops in
    let floor = floors c.args.file.now c.args.config.now c.args.run.now c.args.loops.now
    c.in_ok-columns.columns loops c.in_ok-columns.ensures in
    let most = floors_fit c.args.config.now c.args.run.now (innermost_of c.args.run.now)
    c.keeps_limits.ensures in
    omega (arith, floor, most, c.requires.few)

pub returns : goal.returns
returns g c =
    let loops = c.requires.loops in
    let columns = c.in_ok-columns.columns in
    let keys = c.deref-2.ensures.value
    ∙ (rw (c.visits.ensures, c.innermost.ensures, loops.visits, loops.innermost) at c.in_ok-keys.ensures) in
    let times = c.deref-3.ensures.value ∙ c.requires.path.times in
    let many = ap (λ (ts : List Times). length ts) c.deref-3.ensures.value ∙ c.requires.path.pairs in
    IfOk-weaker c.text_of_columns.result _ _ (λ text is. record {
      lines = is.lines;
      outside = record {
        sums = outside_sums c.in_ok-columns.columns c.deref-2.result.now;
        path = c.in_ok-columns.columns.paths.outside.items;
      };
      total = record {
        sums = total_sums c.in_ok-columns.columns c.deref-3.result.now;
        path = c.in_ok-columns.columns.paths.total.items;
      };
      are_lines = lines c.args.file.now c.args.config.now c.args.run.now c.args.loops.now
          c.in_ok-columns.columns loops c.in_ok-columns.ensures is.lines
          (rw (c.heads-count.ensures, loops.heads) at is.those) is.order;
      is_outside = outside c.args.file.now c.args.config.now c.args.run.now c.args.loops.now
          c.in_ok-columns.columns loops c.in_ok-columns.ensures c.deref-2.result.now keys;
      is_total = all c.args.file.now c.args.config.now c.args.run.now c.args.loops.now
          c.in_ok-columns.columns loops c.in_ok-columns.ensures c.deref-3.result.now times many;
      text_is = rw (c.outside_of-outside.ensures, c.total_of-all.ensures) at is.text_is;
    }) c.text_of_columns.ensures
