-- Of three rows of the hull the middle one isn't mixed.
use Rattle.tomex_pareto.specs.Hull.{hull_of}
use Rattle.tomex_pareto.proofs.Pareto.{among}
use Rattle.tomex_pareto.proofs.OnHull.{hull_within, rates_fall}
use Rattle.tomex_pareto.proofs.laws.rates_never_rise.Goals as goal

pub returns : goal.returns
returns c front a r b ca cr cb up on = rates_fall front a r b (hull_within front a (among (hull_of front) a ca))
    (among (hull_of front) r cr) (hull_within front b (among (hull_of front) b cb)) up on
