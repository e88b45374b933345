-- The last stop leaves, and its place stands where it stood before.
use Rattle.std.proofs.lemmas.Grind.{common_steps}
use Rattle.std.proofs.Common.{◌≡◌, ◌∙◌, ◌++◌, ◌∷◌, [], List, length, length-set, arith, subst, sym, take, ap}
use Rattle.std.proofs.lemmas.List.{length_push, take-append-le}
use Rattle.tomex_loops.specs.declared.finding.Stop.{Stop}
use Rattle.tomex_loops.specs.Ways.{AreStops}
use Rattle.tomex_loops.proofs.Stops.{popped}
use Rattle.tomex_loops.proofs.finding.cut.Goals as goal

pub loop-stops-preserved-in-Some : goal.loop-stops-preserved-in-Some
loop-stops-preserved-in-Some g c =
    let split : c.loop-stops.stops.items ≡ c.pop.new.self.items ++ c.in-Some.stop ∷ [] = c.in-Some.ensures.items in
    let before : AreStops (c.pop.new.self.items ++ c.in-Some.stop ∷ []) c.loop-stops.at.items =
    subst (λ (xs : List Stop). AreStops xs c.loop-stops.at.items) split c.loop-stops.invariant.at in
    record {
      stops = sym (take-append-le c.args.count c.pop.new.self.items (c.in-Some.stop ∷ [])
          (omega (arith, ap length split, length_push c.pop.new.self.items c.in-Some.stop)))
          ∙ ap (λ (xs : List Stop). take c.args.count xs) (sym split) ∙ c.loop-stops.invariant.stops;
      at = popped c.pop.new.self.items c.in-Some.stop c.loop-stops.at.items before;
      many = length-set c.loop-stops.at.items c.in-Some.stop.place c.in-Some.stop.before ∙ c.loop-stops.invariant.many;
    }

pub returns-clause-stops : goal.returns-clause-stops
returns-clause-stops = grind (arith, common_steps)
