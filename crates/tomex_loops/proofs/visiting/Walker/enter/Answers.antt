-- One more visit under way.
use Rattle.std.proofs.lemmas.Grind.{common_steps}
use Rattle.std.proofs.Common.{◌≡◌, ◌∙◌, List, ap, arith, drop, length, refl, reverse}
use Rattle.std.specs.Option.{option_map}
use Rattle.tomex_loops.specs.declared.visit.Open.{Open}
use Rattle.tomex_loops.specs.Calls.{first_of}
use Rattle.tomex_loops.proofs.WalkSteps.{enter_shows}
use Rattle.tomex_loops.proofs.visiting.Walker.enter.Goals as goal

pub returns-clause-shows : goal.returns-clause-shows
returns-clause-shows g c = λ heads w is_number is_now shows.
    let n : c.len.result ≡ length c.args.self.now.visits.items = omega arith in
    enter_shows heads w c.args.self.now _ c.args.head c.args.number c.args.now c.len.result c.innermost_of.result
    c.innermost_here.result c.requires.state shows is_number is_now n
    (c.innermost_of.ensures
    ∙ ap (λ (ys : List Open). option_map (λ (v : Open). v.visit) (first_of (reverse ys))) c.deref.ensures.value)
    (c.innermost_here.ensures
    ∙ ap (λ (ys : List Open). option_map (λ (v : Open). v.visit) (first_of (reverse (drop c.args.self.now.base ys))))
    c.deref-2.ensures.value)
    refl refl c.in_ok-push.ensures.items c.in_ok-push-2.ensures.items c.in_ok-push-3.ensures.items refl

pub returns-clause-visits : goal.returns-clause-visits
returns-clause-visits = grind (arith, common_steps)

pub returns-clause-state : goal.returns-clause-state
returns-clause-state = grind (arith, common_steps)
