-- A row of a study is known by its number.
use Rattle.tomex_texts.proofs.OnHull.{flagged_rows_are_the_hull, hull_is_on_the_front}
use Rattle.tomex_texts.proofs.laws.flagged_rows_are_the_hull.Goals as goal

pub returns-clause-hull : goal.returns-clause-hull
returns-clause-hull c = flagged_rows_are_the_hull

pub returns-clause-front : goal.returns-clause-front
returns-clause-front c = hull_is_on_the_front
