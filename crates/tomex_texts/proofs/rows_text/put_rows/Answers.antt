-- The next row has two flags.
use Rattle.std.proofs.Common.{length, arith}
use Rattle.std.proofs.lemmas.Grind.{common_steps}
use Rattle.tomex_pareto.specs.declared.front_row.FrontRow.{FrontRow}
use Rattle.tomex_pareto.specs.Hull.{hull_of}
use Rattle.tomex_study.specs.StudyFront.{front_of_study}
use Rattle.tomex_texts.proofs.Lines.{flag_there, flag_within}
use Rattle.tomex_texts.proofs.rows_text.put_rows.Goals as goal

abbrev none : FrontRow
none = record { row = 0; cost = 0; cycles = 0 }

pub bounds-on_front-row : goal.bounds-on_front-row
bounds-on_front-row g c =
    let s = c.args.surveyed.now in
    flag_within (front_of_study s) (length s.rows) c.args.on_front.now _
    (c.rows-row-items.ensures.within c.loop-row.row-index none c.loop-row-test.true) c.requires.front

pub bounds-on_hull-row : goal.bounds-on_hull-row
bounds-on_hull-row g c =
    let s = c.args.surveyed.now in
    flag_within (hull_of (front_of_study s)) (length s.rows) c.args.on_hull.now _
    (c.rows-row-items.ensures.within c.loop-row.row-index none c.loop-row-test.true) c.requires.hull

pub put_row-requires-clause-front : goal.put_row-requires-clause-front
put_row-requires-clause-front g c =
    let s = c.args.surveyed.now in
    flag_there (front_of_study s) (length s.rows) c.args.on_front.now _
    (c.rows-row-items.ensures.within c.loop-row.row-index none c.loop-row-test.true) c.requires.front

pub put_row-requires-clause-hull : goal.put_row-requires-clause-hull
put_row-requires-clause-hull g c =
    let s = c.args.surveyed.now in
    flag_there (hull_of (front_of_study s)) (length s.rows) c.args.on_hull.now _
    (c.rows-row-items.ensures.within c.loop-row.row-index none c.loop-row-test.true) c.requires.hull

pub loop-row-preserved : goal.loop-row-preserved
loop-row-preserved = grind (arith, common_steps)

pub returns : goal.returns
returns = grind (arith, common_steps)
