-- The plateau is one of the program's, and the configuration lies on it.
use Rattle.std.proofs.Common.{◌≡◌, ◌∙◌, subst, sym, true}
use Rattle.tomex_plateaus.specs.Plateaus.{IsPlateauOf, lies_on}
use Rattle.tomex_plateaus.proofs.Reaching.{same_from}
use Rattle.tomex_plateaus.proofs.plateaus.Plateaus.reach.Goals as goal

pub returns-in-Some : goal.returns-in-Some
returns-in-Some g c =
    let lookup = rw c.deref.ensures.value at c.in-Some.ensures.lookup in
    let is : IsPlateauOf c.self.inside.evaluator c.in-Some.plateau.now =
    subst (IsPlateauOf c.self.inside.evaluator) (sym lookup.1)
    (c.self.invariant.are c.latest.result c.in-Some.plateau.now lookup.3.0) in
    let on : lies_on c.args.config.now c.in-Some.plateau.now ≡ true = sym c.has.ensures ∙ c.if-has.true in
    rw (← c.self.view_is, c.least_count.ensures)
    (same_from c.self.inside.evaluator c.args.config.now c.in-Some.plateau.now c.args.part c.keeps_limits.ensures is on)
