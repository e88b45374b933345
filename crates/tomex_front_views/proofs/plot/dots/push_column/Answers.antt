-- One more line.
use Rattle.std.proofs.Common.{ap, sym, List, ℕ, ◌++◌}
use Rattle.std.specs.Prelude.{string_bytes}
use Rattle.std.specs.List.{flat_map}
use Rattle.tomex_front_views.specs.Dots.{stroke_at}
use Rattle.tomex_front_views.proofs.Strokes.{from_top, line_more, lines_over}
use Rattle.tomex_front_views.proofs.plot.dots.push_column.Goals as goal

pub loop-line-init : goal.loop-line-init
loop-line-init g c = λ dot top is.
    ap (λ (ns : List ℕ). string_bytes c.args.text.now ++ flat_map (stroke_at dot c.args.x) ns) (sym from_top)

pub loop-line-preserved : goal.loop-line-preserved
loop-line-preserved g c = λ dot top is.
    line_more (stroke_at dot c.args.x) c.loop-line.line _ _ _ c.loop-line-test.true
    (c.in_ok-push_stroke_at.ensures dot top is) (c.loop-line.invariant dot top is)

pub returns : goal.returns
returns g c = λ dot top is.
    lines_over (stroke_at dot c.args.x) c.loop-line.line _ _ c.loop-line-test.false (c.loop-line.invariant dot top is)
