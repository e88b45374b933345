-- The round's places are known, and its head is the first of them.
use Rattle.std.proofs.lemmas.Grind.{common_steps}
use Rattle.std.proofs.Common.{◌≡◌, ◌∙◌, ℕ, List, None, Option, ap, arith, drop, get_or, length, set, sym, take, true}
use Rattle.std.proofs.lemmas.List.{drop-map, take-map, take_rest}
use Rattle.tomex_loops.specs.declared.finding.Stop.{Stop}
use Rattle.tomex_loops.specs.Loops.{head_of, loop_after, stand}
use Rattle.tomex_loops.specs.Ways.{loop_in, places_of}
use Rattle.tomex_loops.proofs.Given.{head_at_most_first, head_least}
use Rattle.tomex_loops.proofs.Stops.{places_within}
use Rattle.tomex_loops.proofs.finding.Finder.come_round.Goals as goal

pub give-requires-clause-round : goal.give-requires-clause-round
give-requires-clause-round g c = λ i h.
    let stops = c.args.self.now.stops.items in
    let is : c.deref-4.result.now ≡ drop c.args.k (places_of c.args.self.now.stops.items) =
    c.deref-4.ensures.value ∙ c.in_ok-copy_places.ensures
    ∙ ap (λ (xs : List Stop). places_of xs) (take_rest c.deref.result.now c.args.k)
    ∙ ap (λ (xs : List Stop). places_of (drop c.args.k xs)) c.deref.ensures.value
    ∙ sym (drop-map (λ (s : Stop). s.place) c.args.k c.args.self.now.stops.items) in
    let inside = places_within c.args.self.now.stops.items c.args.self.now.at.items c.deref-4.result.now c.args.k i
    c.requires.state.stops is h in
    omega (arith, inside, c.requires.state.loops)

pub give-requires-clause-least : goal.give-requires-clause-least
give-requires-clause-least g c = λ i h.
    let same : c.deref-2.result.now ≡ c.deref-4.result.now = c.deref-2.ensures.value ∙ sym c.deref-4.ensures.value in
    let head : c.head_of-head.result ≡ head_of c.args.place c.deref-4.result.now =
    c.head_of-head.ensures ∙ ap (λ (xs : List ℕ). head_of c.args.place xs) same in
    let low = head_least c.args.place c.deref-4.result.now i h in omega (arith, head, low)

pub index_mut-requires : goal.index_mut-requires
index_mut-requires g c =
    let low = head_at_most_first c.args.place c.deref-2.result.now in
    let head : c.head_of-head.result ≡ head_of c.args.place c.deref-2.result.now = c.head_of-head.ensures in
    omega (arith, low, head, c.requires.place, c.requires.state.heads)

pub returns-clause-heads : goal.returns-clause-heads
returns-clause-heads g c =
    let is : c.deref-2.result.now ≡ drop c.args.k (places_of c.args.self.now.stops.items) =
    c.deref-2.ensures.value ∙ c.in_ok-copy_places.ensures
    ∙ ap (λ (xs : List Stop). places_of xs) (take_rest c.deref.result.now c.args.k)
    ∙ ap (λ (xs : List Stop). places_of (drop c.args.k xs)) c.deref.ensures.value
    ∙ sym (drop-map (λ (s : Stop). s.place) c.args.k c.args.self.now.stops.items) in
    ap (λ (h : ℕ). set c.args.self.now.heads.items h true)
    (c.head_of-head.ensures ∙ ap (λ (xs : List ℕ). head_of c.args.place xs) is)

pub returns-clause-loops : goal.returns-clause-loops
returns-clause-loops g c = λ x h.
    let places : List ℕ = places_of c.args.self.now.stops.items in
    let copied : c.copy_places.new.places.items ≡ drop c.args.k (places_of c.args.self.now.stops.items) =
    c.in_ok-copy_places.ensures ∙ ap (λ (xs : List Stop). places_of xs) (take_rest c.deref.result.now c.args.k)
    ∙ ap (λ (xs : List Stop). places_of (drop c.args.k xs)) c.deref.ensures.value
    ∙ sym (drop-map (λ (s : Stop). s.place) c.args.k c.args.self.now.stops.items) in
    let round : c.deref-4.result.now ≡ drop c.args.k (places_of c.args.self.now.stops.items) =
    c.deref-4.ensures.value ∙ copied in
    let head : c.head_of-head.result ≡ head_of c.args.place (drop c.args.k (places_of c.args.self.now.stops.items)) =
    c.head_of-head.ensures ∙ ap (λ (xs : List ℕ). head_of c.args.place xs) (c.deref-2.ensures.value ∙ copied) in
    let cut : places_of c.cut.new.stops.items ≡ take c.args.k (places_of c.args.self.now.stops.items) =
    ap (λ (xs : List Stop). places_of xs) c.cut.ensures.stops
    ∙ sym (take-map (λ (s : Stop). s.place) c.args.k c.args.self.now.stops.items) in
    let given = c.give.ensures.loops (take c.args.k (places_of c.args.self.now.stops.items)) x
    (λ p low. ap (λ (xs : List (Option ℕ)). get_or xs p None) c.deref-3.ensures.value
    ∙ c.cut.ensures.at.last p (omega (arith, low, ap (λ (xs : List (Option ℕ)). length xs) c.deref-3.ensures.value))
    ∙ ap (λ (xs : List ℕ). stand xs p) cut) h in
    given
    ∙ ap (λ (xs : List ℕ). loop_after (drop c.args.self.now.base (take c.args.k
    (places_of c.args.self.now.stops.items))) xs
    c.head_of-head.result (loop_in c.args.self.now.loops.items) x) round
    ∙ ap (λ (n : ℕ). loop_after (drop c.args.self.now.base (take c.args.k (places_of c.args.self.now.stops.items)))
    (drop c.args.k (places_of c.args.self.now.stops.items)) n (loop_in c.args.self.now.loops.items) x) head

pub returns-clause-state : goal.returns-clause-state
returns-clause-state = grind (arith, common_steps)
