-- Rows lie in the picture.
use Rattle.tomex_front_views.proofs.Dotted.{from_x, from_y}
use Rattle.tomex_front_views.proofs.plot.dots.place_of.Goals as goal

pub overflow_sub-result : goal.overflow_sub-result
overflow_sub-result c = rw c.point_of-at.ensures.is (from_x c.args.axes.now c.args.row.cost)

pub overflow_sub-result-2 : goal.overflow_sub-result-2
overflow_sub-result-2 c = rw c.point_of-at.ensures.is (from_y c.args.axes.now c.args.row.cycles)
