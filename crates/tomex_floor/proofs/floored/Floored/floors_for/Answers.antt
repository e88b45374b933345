-- What was computed is known from now on.
use Rattle.std.proofs.Common.{All, subst, sym}
use Rattle.std.proofs.lemmas.List.Elements.{All-push}
use Rattle.tomex_floor.specs.Flooring.{AreFloorsOf}
use Rattle.tomex_floor.proofs.SameFloors.{floors_known}
use Rattle.tomex_floor.proofs.floored.Floored.floors_for.Goals as goal

pub invariant_of-self-2 : goal.invariant_of-self-2
invariant_of-self-2 g c =
    let steps = c.self.inside.run.now in
    let uses = c.self.inside.uses in
    record {
      few = c.self.invariant.few;
      uses_are = c.self.invariant.uses_are;
      known_are = subst (All (AreFloorsOf steps uses)) (sym c.in_ok-push.ensures.items)
          (All-push (AreFloorsOf steps uses) _ _ c.self.invariant.known_are
          (floors_known steps uses c.args.config.now
          (record { latencies = c.used_latencies-latencies.result; floors = c.in_ok-floors.floors })
          c.self.invariant.uses_are c.used_latencies-latencies.ensures c.in_ok-floors.ensures.exact));
    }
