-- The place goes to the end of its way, after a round or as a new one.
use Rattle.std.proofs.lemmas.Grind.{common_steps}
use Rattle.std.proofs.Common.{◌≡◌, ◌∙◌, ◌<◌, ◌≤◌, ℕ, List, None, Option, ap, arith, drop, get_or, length, refl, subst}
use Rattle.std.proofs.Common.{sym}
use Rattle.tomex_loops.specs.declared.finding.Finder.{Finder}
use Rattle.tomex_loops.specs.Loops.{stand}
use Rattle.tomex_loops.specs.Ways.{places_of}
use Rattle.tomex_loops.proofs.Given.{head_at_most_first}
use Rattle.tomex_loops.proofs.Rounds.{IsReady, ready_new, ready_round, ways_put}
use Rattle.tomex_loops.proofs.Stops.{many_places}
use Rattle.tomex_loops.proofs.Ways.{stands_below, stands_nowhere}
use Rattle.tomex_loops.proofs.finding.Finder.come.Goals as goal
use Rattle.tomex_loops.proofs.finding.Finder.come.Goals.{in-Some+in_ok-come_round, in_default}

pub come_round-requires-clause-within : goal.come_round-requires-clause-within
come_round-requires-clause-within g c =
    let known : get_or c.deref.result.now c.args.place None ≡ stand
    (places_of c.args.self.now.stops.items) c.args.place =
    ap (λ (xs : List (Option ℕ)). get_or xs c.args.place None) c.deref.ensures.value
    ∙ c.requires.state.stops.last c.args.place c.requires.place in
    let at = c.in-Some.ensures (places_of c.args.self.now.stops.items) known in
    let found = stands_below c.args.self.now.base c.in-Some.k (places_of c.args.self.now.stops.items) c.args.place
    (stand (drop c.args.self.now.base (places_of c.args.self.now.stops.items)) c.args.place) refl at
    (omega (arith, c.requires.state.low, many_places c.args.self.now.stops.items)) in
    omega (arith, found.1, many_places c.args.self.now.stops.items)

pub returns-clause-found : goal.returns-clause-found
returns-clause-found g c = λ f shows.
    let many = many_places c.args.self.now.stops.items in
    let low : c.args.self.now.base ≤ length (places_of c.args.self.now.stops.items) =
    omega (arith, c.requires.state.low, many) in
    let known : get_or c.deref.result.now c.args.place None ≡ stand
    (places_of c.args.self.now.stops.items) c.args.place =
    ap (λ (xs : List (Option ℕ)). get_or xs c.args.place None) c.deref.ensures.value
    ∙ c.requires.state.stops.last c.args.place c.requires.place in
    let at = c.stand.ensures (places_of c.args.self.now.stops.items) known in
    let ready : IsReady f c.args.place c.match-stand.self = elim c.match-stand.branch [
      | in-Some+in_ok-come_round w ↦
          let found = stands_below c.args.self.now.base w.in-Some.k (places_of c.args.self.now.stops.items) c.args.place
          (stand (drop c.args.self.now.base (places_of c.args.self.now.stops.items)) c.args.place) refl
          (sym w.in-Some.is ∙ at) low in
          let first = head_at_most_first c.args.place (drop w.in-Some.k (places_of c.args.self.now.stops.items)) in
          let below : w.in-Some.k < length c.args.self.now.stops.items = omega (arith, found.1, many) in
          subst (λ (s : Finder _). IsReady f c.args.place s) (sym w.self-is)
          (ready_round f c.args.place w.in-Some.k found.2.0 c.args.self.now w.come_round.new.self shows found.0 below
          found.2.1 found.2.2 (omega (arith, first, c.requires.place, c.requires.state.heads))
          (omega (
            arith,
            w.in_ok-come_round.ensures.state.loops,
            w.in_ok-come_round.ensures.many,
            c.requires.state.loops,
          ))
          w.in_ok-come_round.ensures.bases.0 w.in_ok-come_round.ensures.bases.1 w.in_ok-come_round.ensures.stops
          w.in_ok-come_round.ensures.heads w.in_ok-come_round.ensures.loops)
      | in_default w ↦
          subst (λ (s : Finder _). IsReady f c.args.place s) (sym w.self-is)
          (ready_new f c.args.place c.args.self.now shows c.requires.state.low
          (stands_nowhere c.args.self.now.base
          (stand (drop c.args.self.now.base (places_of c.args.self.now.stops.items)) c.args.place)
          (sym w.in_default.is ∙ at)))
    ] in
    record {
      ways = ways_put f c.args.place c.match-stand.self
          (places_of c.put.new.stops.items) ready c.in_ok-put.ensures.places;
      found = ready.found;
    }

pub returns-clause-few : goal.returns-clause-few
returns-clause-few = grind (arith, common_steps)

pub returns-clause-state : goal.returns-clause-state
returns-clause-state = grind (arith, common_steps)

pub put-requires-clause-few : goal.put-requires-clause-few
put-requires-clause-few = grind (arith, common_steps)
