-- The move, the visits that end, and the arrival.
use Rattle.std.proofs.lemmas.Grind.{common_steps}
use Rattle.std.proofs.Common.{◌≡◌, ◌∙◌, ◌<◌, ◌++◌, ◌∷◌, [], ℕ, List, Option, ap, arith, drop, false, get_or, length}
use Rattle.std.proofs.Common.{reverse}
use Rattle.std.specs.Option.{option_map}
use Rattle.std.proofs.lemmas.List.{get_or_read}
use Rattle.tomex_loops.specs.declared.visit.Open.{Open}
use Rattle.tomex_loops.specs.Calls.{Calls, first_of}
use Rattle.tomex_loops.specs.Loops.{heads_below}
use Rattle.tomex_loops.specs.Visits.{Walk, arrive, come, innermost, innermost_here, leave}
use Rattle.tomex_loops.specs.Ways.{loop_in}
use Rattle.tomex_loops.proofs.Walking.{innermost_joined}
use Rattle.tomex_loops.proofs.visiting.Walker.walk_on.Goals as goal

pub returns-clause-shows : goal.returns-clause-shows
returns-clause-shows g c = λ w is_now shows.
    let there : Walk = come c.args.coming.by w in
    let left : Walk = leave (loop_in c.args.forest.now.loops.items) c.args.coming.place there in
    let inside : c.args.coming.place < length c.args.forest.now.heads.items =
    omega (arith, c.requires.place, c.requires.forest.many_heads) in
    let is_head : c.index.result.now ≡ get_or c.args.forest.now.heads.items c.args.coming.place false =
    get_or_read c.args.forest.now.heads.items c.args.coming.place c.index.result.now inside c.index.ensures false in
    let number : c.index-2.result.now
    ≡ heads_below (λ y. get_or c.args.forest.now.heads.items y false) c.args.coming.place =
    get_or_read c.args.forest.now.numbers.items c.args.coming.place c.index-2.result.now
    (omega (arith, c.requires.place, c.requires.forest.many_numbers)) c.index-2.ensures 0
    ∙ c.requires.forest.numbers c.args.coming.place inside in
    let s = c.in_ok-arrive.ensures.shows (λ y. get_or c.args.forest.now.heads.items y false) left is_head number is_now
    (c.leave_loops.ensures.shows there is_now (c.in_ok-go.ensures.shows w is_now shows)) in
    record { under_way = s.under_way; visits = s.visits; ends = s.ends; rounds = s.rounds }

pub returns-clause-innermost : goal.returns-clause-innermost
returns-clause-innermost g c = λ w is_now shows.
    let there : Walk = come c.args.coming.by w in
    let left : Walk = leave (loop_in c.args.forest.now.loops.items) c.args.coming.place there in
    let inside : c.args.coming.place < length c.args.forest.now.heads.items =
    omega (arith, c.requires.place, c.requires.forest.many_heads) in
    let is_head : c.index.result.now ≡ get_or c.args.forest.now.heads.items c.args.coming.place false =
    get_or_read c.args.forest.now.heads.items c.args.coming.place c.index.result.now inside c.index.ensures false in
    let number : c.index-2.result.now
    ≡ heads_below (λ y. get_or c.args.forest.now.heads.items y false) c.args.coming.place =
    get_or_read c.args.forest.now.numbers.items c.args.coming.place c.index-2.result.now
    (omega (arith, c.requires.place, c.requires.forest.many_numbers)) c.index-2.ensures 0
    ∙ c.requires.forest.numbers c.args.coming.place inside in
    let s = c.in_ok-arrive.ensures.shows (λ y. get_or c.args.forest.now.heads.items y false) left is_head number is_now
    (c.leave_loops.ensures.shows there is_now (c.in_ok-go.ensures.shows w is_now shows)) in
    let after : Walk = arrive (λ y. get_or c.args.forest.now.heads.items y false) c.args.coming.place left in
    let inner : c.innermost_of-innermost.result ≡ innermost after.under_way = c.innermost_of-innermost.ensures
    ∙ ap (λ (ys : List Open). option_map (λ (v : Open). v.visit) (first_of (reverse ys))) c.deref.ensures.value
    ∙ innermost_joined c.arrive.new.self.base (reverse c.arrive.new.self.bases.items) c.arrive.new.self.under_way.items
    after.under_way c.in_ok-arrive.ensures.state.bases c.in_ok-arrive.ensures.state.grounded
    c.in_ok-arrive.ensures.state.low s.under_way in
    c.in_ok-push.ensures.items
    ∙ ap (λ (xs : List (Option ℕ)). xs ++ c.innermost_of-innermost.result ∷ [])
    (c.in_ok-arrive.ensures.innermost ∙ c.leave_loops.ensures.innermost ∙ c.in_ok-go.ensures.innermost)
    ∙ ap (λ (o : Option ℕ). c.args.self.now.innermost.items ++ o ∷ []) inner

pub returns-clause-here : goal.returns-clause-here
returns-clause-here g c = λ w is_now shows.
    let there : Walk = come c.args.coming.by w in
    let left : Walk = leave (loop_in c.args.forest.now.loops.items) c.args.coming.place there in
    let inside : c.args.coming.place < length c.args.forest.now.heads.items =
    omega (arith, c.requires.place, c.requires.forest.many_heads) in
    let is_head : c.index.result.now ≡ get_or c.args.forest.now.heads.items c.args.coming.place false =
    get_or_read c.args.forest.now.heads.items c.args.coming.place c.index.result.now inside c.index.ensures false in
    let number : c.index-2.result.now
    ≡ heads_below (λ y. get_or c.args.forest.now.heads.items y false) c.args.coming.place =
    get_or_read c.args.forest.now.numbers.items c.args.coming.place c.index-2.result.now
    (omega (arith, c.requires.place, c.requires.forest.many_numbers)) c.index-2.ensures 0
    ∙ c.requires.forest.numbers c.args.coming.place inside in
    let s = c.in_ok-arrive.ensures.shows (λ y. get_or c.args.forest.now.heads.items y false) left is_head number is_now
    (c.leave_loops.ensures.shows there is_now (c.in_ok-go.ensures.shows w is_now shows)) in
    let after : Walk = arrive (λ y. get_or c.args.forest.now.heads.items y false) c.args.coming.place left in
    let inner : c.innermost_here-here.result ≡ innermost_here after.under_way = c.innermost_here-here.ensures
    ∙ ap (λ (ys : List Open). option_map (λ (v : Open). v.visit) (first_of (reverse (drop c.arrive.new.self.base ys))))
    c.deref-2.ensures.value
    ∙ ap (λ (calls : Calls Open). innermost_here calls) s.under_way in
    c.in_ok-push-2.ensures.items
    ∙ ap (λ (xs : List (Option ℕ)). xs ++ c.innermost_here-here.result ∷ [])
    (c.in_ok-arrive.ensures.here ∙ c.leave_loops.ensures.here ∙ c.in_ok-go.ensures.here)
    ∙ ap (λ (o : Option ℕ). c.args.self.now.here.items ++ o ∷ []) inner

pub returns-clause-visits : goal.returns-clause-visits
returns-clause-visits = grind (arith, common_steps)
