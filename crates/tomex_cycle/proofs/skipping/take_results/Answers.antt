use Rattle.tomex_cycle.proofs.Words.{refl}
use Rattle.tomex_cycle.proofs.KnownEnds.{are_results, known_results, others_finish, apart_is}
use Rattle.tomex_cycle.proofs.skipping.take_results.Goals as goal

pub returns-clause-results : goal.returns-clause-results
returns-clause-results c = λ yes next known.
    let results = are_results known c.first.ensures
    (apart_is c.writers.result c.places_served_by.result c.writers.ensures.set
    c.places_served_by.ensures
    c.difference-results.ensures c.difference-others.ensures) c.if-others-ne0.false in (
      results,
      known_results c.args.pools.now
          (record { wheel = c.turn-finishes.new.self.wheel; unsent = c.turn-finishes.result }) c.writers.ensures.busy
          known c.turn-finishes.ensures results c.requires refl refl,
    )

pub returns-then-others-ne0-clause-others : goal.returns-then-others-ne0-clause-others
returns-then-others-ne0-clause-others c = λ no next known are. others_finish known c.first.ensures
    (apart_is c.writers.result c.places_served_by.result c.writers.ensures.set c.places_served_by.ensures
    c.difference-results.ensures
    c.difference-others.ensures)
    c.difference-others.type_inv c.if-others-ne0.true are
