-- Back from a call.
use Rattle.std.proofs.lemmas.Grind.{common_steps}
use Rattle.std.proofs.Common.{◌≡◌, ◌∙◌, ℕ, List, ap, arith, length, refl, reverse, sym, take}
use Rattle.std.proofs.lemmas.List.{take-map}
use Rattle.std.specs.Prelude.{vec_len}
use Rattle.tomex_loops.specs.declared.coming.Move.{Move}
use Rattle.tomex_loops.specs.declared.coming.Move.TheVariants.{Return}
use Rattle.tomex_loops.specs.declared.finding.Stop.{Stop}
use Rattle.tomex_loops.specs.Calls.{moved}
use Rattle.tomex_loops.specs.Ways.{calls_in, places_of, same, ways_of}
use Rattle.tomex_loops.proofs.Calls.{none_left, returned_by}
use Rattle.tomex_loops.proofs.Stops.{many_places}
use Rattle.tomex_loops.proofs.finding.Finder.go.Goals as goal

pub returns-in-Return-clause-ways : goal.returns-in-Return-clause-ways
returns-in-Return-clause-ways g c =
    let cut : places_of c.cut.new.stops.items ≡ take c.args.self.now.base (places_of c.args.self.now.stops.items) =
    ap (λ (xs : List Stop). places_of xs) c.cut.ensures.stops
    ∙ sym (take-map (λ (s : Stop). s.place) c.args.self.now.base c.args.self.now.stops.items) in
    let many : c.len.result ≡ length (take c.args.self.now.base (places_of c.args.self.now.stops.items)) =
    omega (arith, many_places c.cut.new.stops.items, ap (λ (xs : List ℕ). length xs) cut) in
    let back : calls_in same c.unwrap_or-self.result (reverse c.pop.new.self.items)
    (take c.args.self.now.base (places_of c.args.self.now.stops.items)) ≡ moved Return (ways_of c.args.self.now) =
    returned_by same refl (places_of c.args.self.now.stops.items) c.args.self.now.base c.unwrap_or-self.result
    c.len.result c.args.self.now.bases.items c.pop.new.self.items c.pop.result c.pop.ensures.items
    (none_left (vec_len c.args.self.now.bases) (vec_len c.pop.new.self) c.pop.new.self.items c.pop.result
    c.pop.ensures.cases (omega arith)) c.unwrap_or-self.ensures many in
    ap (λ (xs : List ℕ). calls_in same c.unwrap_or-self.result (reverse c.pop.new.self.items) xs) cut
    ∙ back ∙ ap (λ (by : Move). moved by (ways_of c.args.self.now)) (sym c.in-Return.is)

pub returns-in_ok-push-in-Call-clause-ways : goal.returns-in_ok-push-in-Call-clause-ways
returns-in_ok-push-in-Call-clause-ways = grind (arith, common_steps)

pub returns-in_ok-push-in-Call-clause-state : goal.returns-in_ok-push-in-Call-clause-state
returns-in_ok-push-in-Call-clause-state = grind (arith, common_steps)

pub returns-in-Return-clause-state : goal.returns-in-Return-clause-state
returns-in-Return-clause-state = grind (arith, common_steps)
