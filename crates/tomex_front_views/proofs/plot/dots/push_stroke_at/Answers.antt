-- A stroke is written if one begins here.
use Rattle.std.proofs.lemmas.Result.{on_ok_weaker}
use Rattle.tomex_front_views.proofs.Strokes.{not_written, written}
use Rattle.tomex_front_views.proofs.plot.dots.push_stroke_at.Goals as goal

pub returns-then-begins : goal.returns-then-begins
returns-then-begins g c =
    on_ok_weaker c.push_stroke.result
    (λ grown dot top is. written dot c.args.column.now c.args.x c.args.line _ top is c.requires.line
    c.begins.ensures c.if-begins.true c.reach.ensures grown)
    c.push_stroke.ensures

pub returns : goal.returns
returns g c = λ dot top is.
    not_written dot c.args.column.now c.args.x c.args.line c.begins.result _ top is c.requires.line c.begins.ensures
    c.if-begins.false
