-- The number of items taken is the number that follow without a gap.
use Rattle.std.proofs.Common.{◌+◌, refl, rules, tests}
use Rattle.std.proofs.lemmas.Iterator.{YieldsList-from_slice}
use Rattle.std.proofs.lemmas.List.{take_rest}
use Rattle.std.proofs.lemmas.Iterator.Consumers.{count_from_yields_List}
use Rattle.std.proofs.lemmas.Iterator.Search.{YieldsList-from_take_while}
use Rattle.std.specs.Prelude.{drop}
use Rattle.tomex_front_views.proofs.Strokes.{counted}
use Rattle.tomex_front_views.proofs.plot.dots.reach.Goals as goal

pub returns : goal.returns
returns c =
    counted c.args.column.now c.args.line c.count.result (drop (c.args.line + 1) c.args.column.now) refl
    (count_from_yields_List c.take_while.result _ c.count.ensures.ran
    (YieldsList-from_take_while _ (λ dot. dot) (YieldsList-from_slice (drop (c.args.line + 1) c.args.column.now)
    (cc (take_rest c.args.column.now (c.args.line + 1))))
    c.take_while.ensures.closure c.take_while.ensures.done (λ x b q k. search (rules, tests))))
