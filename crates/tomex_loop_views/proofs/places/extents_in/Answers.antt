-- The visits' loops are those of this many, and the visits around have lower numbers.
use Rattle.std.proofs.Common.{arith, ◌≡◌, ◌∙◌, map}
use Rattle.std.proofs.lemmas.Grind.{common_steps}
use Rattle.tomex_loop_views.proofs.AtHeads.{numbers_low, outer_low}
use Rattle.tomex_loop_views.proofs.places.extents_in.Goals as goal

pub extents_of-requires-clause-loops : goal.extents_of-requires-clause-loops
extents_of-requires-clause-loops g c =
    rw c.requires.loops (numbers_low c.args.count c.args.visits.now c.requires.numbers)

pub extents_of-requires-clause-lower : goal.extents_of-requires-clause-lower
extents_of-requires-clause-lower g c =
    let is : c.deref.result.now ≡ map (λ v. v.within) c.args.visits.now =
    c.deref.ensures.value ∙ c.in_ok-within.ensures in
    rw is (outer_low (λ v. v.within) c.args.visits.now c.requires.within)

pub extents_of-requires-clause-visits : goal.extents_of-requires-clause-visits
extents_of-requires-clause-visits = grind (arith, common_steps)

pub extents_of-requires-clause-here : goal.extents_of-requires-clause-here
extents_of-requires-clause-here = grind (arith, common_steps)
