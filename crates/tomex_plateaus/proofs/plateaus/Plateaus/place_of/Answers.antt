-- A search from the front, if no plateau that is proposed is the one.
use Rattle.tomex_plateaus.proofs.Finding.{found_at, nowhere}
use Rattle.tomex_plateaus.proofs.plateaus.Plateaus.place_of.Goals as goal

pub returns-in-None-clause-some : goal.returns-in-None-clause-some
returns-in-None-clause-some g c =
    found_at c.args.numbers.now c.args.self.now.found c.first_place.result c.first_place.ensures

pub returns-in-None-clause-none : goal.returns-in-None-clause-none
returns-in-None-clause-none g c =
    nowhere c.args.numbers.now c.args.self.now.found c.first_place.result c.first_place.ensures
