-- What is said of rows that a list has, said of those at its places.
use Rattle.tomex_pareto.specs.Front.{front_of}
use Rattle.tomex_pareto.proofs.Pareto.{among, apart, has_contains}
use Rattle.tomex_pareto.specs.Hull.{hull_of}
use Rattle.tomex_pareto.proofs.Chosen.{worth_of}
use Rattle.tomex_pareto.proofs.Worths.{best_on_hull}
use Rattle.tomex_pareto.proofs.laws.hull_is_the_best_for_some_worth.Goals as goal

pub returns-clause-all : goal.returns-clause-all
returns-clause-all c rows numbered r w = has_contains (hull_of (front_of rows)) r
    (best_on_hull rows w.p w.q r (apart rows numbered) w.some_cost w.some_cycles (among rows r w.best.one)
    (λ j h. w.best.least j (has_contains rows j h)))

pub returns-clause-only : goal.returns-clause-only
returns-clause-only c rows numbered r on =
    let w = worth_of rows r (apart rows numbered) (among (hull_of (front_of rows)) r on) in
    record {
      p = w.p;
      q = w.q;
      some_cost = w.some_cost;
      some_cycles = w.some_cycles;
      best = record { one = has_contains rows r w.one; least = λ j i. w.least j (among rows j i) };
    }
