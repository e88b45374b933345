-- What is found in the run's comings is what is found in the run.
use Rattle.std.proofs.lemmas.Grind.{common_steps}
use Rattle.std.proofs.Common.{◌∙◌, ◌<◌, ℕ, Bool, List, ap, arith, false, get_or, length, map, subst, sym}
use Rattle.tomex_loops.specs.declared.coming.Coming.{Coming}
use Rattle.tomex_loops.specs.Loops.{found_in}
use Rattle.tomex_loops.specs.Runs.{heads_to}
use Rattle.tomex_loops.specs.Visits.{Walk, innermost, innermost_here, setting_out, walk_after, walks_after}
use Rattle.tomex_loops.specs.Walking.{found_by}
use Rattle.tomex_loops.proofs.Sound.{are_sound}
use Rattle.tomex_loops.proofs.Whole.{AreWhole, are_whole, ends_whole, heads_whole, here_whole, innermost_whole}
use Rattle.tomex_loops.proofs.Whole.{rounds_whole, visits_whole}
use Rattle.tomex_loops.proofs.loops.Loops.of.Given.{Over}
use Rattle.tomex_loops.proofs.loops.Loops.of.Goals.{In_ok-forest}
use Rattle.tomex_loops.proofs.loops.Loops.of.Goals as goal

whole : (g : Over) (c : In_ok-forest g) → AreWhole c.args.steps.now c.in_ok-comings.comings.items
    c.in_ok-forest.forest.heads.items c.in_ok-forest.forest.loops.items
whole g c = are_whole c.args.steps.now c.in_ok-comings.comings.items c.deref.result.now
    c.in_ok-forest.forest.heads.items c.in_ok-found.found.heads.items c.in_ok-forest.forest.loops.items
    c.in_ok-found.found.loops.items c.in_ok-comings.ensures.exact c.in_ok-comings.ensures.many
    c.in_ok-comings.ensures.places c.deref.ensures.value c.in_ok-forest.ensures.heads c.in_ok-forest.ensures.loops
    c.in_ok-found.ensures.heads c.in_ok-found.ensures.loops c.in_ok-forest.ensures.forest.lower
    c.in_ok-found.ensures.found

pub walk-requires-clause-places : goal.walk-requires-clause-places
walk-requires-clause-places g c =
    let w = whole g (goal.at.walk-requires-clause-places g c).In_ok-forest in
    subst (λ (cs : List Coming). (k : ℕ) (z : Coming) → k < length cs
    → (get_or cs k z).place < length c.in_ok-forest.forest.loops.items) (sym c.deref-2.ensures.value)
    (λ k z h. let low = w.places k z h in omega (arith, low, w.many_loops))

pub returns-clause-heads : goal.returns-clause-heads
returns-clause-heads g c =
    let w = whole g (goal.at.returns-clause-heads g c).In_ok-forest in
    c.in_ok-heads.ensures
    ∙ ap (λ (bs : List Bool). heads_to (λ x. get_or bs x false) (length bs)) c.deref-3.ensures.value
    ∙ heads_whole c.args.steps.now c.in_ok-comings.comings.items c.in_ok-forest.forest.heads.items w.is
    (w.many_heads ∙ w.many) w.found.same_heads

pub returns-clause-many : goal.returns-clause-many
returns-clause-many g c =
    let w = whole g (goal.at.returns-clause-many g c).In_ok-forest in
    w.many_loops ∙ w.many

pub returns-clause-loops : goal.returns-clause-loops
returns-clause-loops g c = λ x h.
    let w = whole g (goal.at.returns-clause-loops g c).In_ok-forest in
    w.found.same_loops x (omega (arith, h, w.many, w.many_loops))
    ∙ ap (λ (cs : List Coming). (found_in cs).loop x) w.is

pub returns-clause-visits : goal.returns-clause-visits
returns-clause-visits g c =
    c.in_ok-walker.ensures.visits
    ∙ ap (λ (cs : List Coming). (walk_after (found_by c.in_ok-forest.forest.heads.items
    c.in_ok-forest.forest.loops.items) setting_out cs).visits) c.deref-2.ensures.value
    ∙ visits_whole c.args.steps.now c.in_ok-comings.comings.items c.in_ok-forest.forest.heads.items
    c.in_ok-forest.forest.loops.items (whole g (goal.at.returns-clause-visits g c).In_ok-forest)

pub returns-clause-ends : goal.returns-clause-ends
returns-clause-ends g c =
    c.in_ok-walker.ensures.ends
    ∙ ap (λ (cs : List Coming). (walk_after (found_by c.in_ok-forest.forest.heads.items
    c.in_ok-forest.forest.loops.items) setting_out cs).ends) c.deref-2.ensures.value
    ∙ ends_whole c.args.steps.now c.in_ok-comings.comings.items c.in_ok-forest.forest.heads.items
    c.in_ok-forest.forest.loops.items (whole g (goal.at.returns-clause-ends g c).In_ok-forest)

pub returns-clause-innermost : goal.returns-clause-innermost
returns-clause-innermost g c =
    c.in_ok-walker.ensures.innermost
    ∙ ap (λ (cs : List Coming). map (λ (w : Walk). innermost w.under_way) (walks_after (found_by
    c.in_ok-forest.forest.heads.items c.in_ok-forest.forest.loops.items) setting_out cs)) c.deref-2.ensures.value
    ∙ innermost_whole c.args.steps.now c.in_ok-comings.comings.items c.in_ok-forest.forest.heads.items
    c.in_ok-forest.forest.loops.items (whole g (goal.at.returns-clause-innermost g c).In_ok-forest)

pub returns-clause-here : goal.returns-clause-here
returns-clause-here g c =
    c.in_ok-walker.ensures.here
    ∙ ap (λ (cs : List Coming). map (λ (w : Walk). innermost_here w.under_way) (walks_after (found_by
    c.in_ok-forest.forest.heads.items c.in_ok-forest.forest.loops.items) setting_out cs)) c.deref-2.ensures.value
    ∙ here_whole c.args.steps.now c.in_ok-comings.comings.items c.in_ok-forest.forest.heads.items
    c.in_ok-forest.forest.loops.items (whole g (goal.at.returns-clause-here g c).In_ok-forest)

pub returns-clause-rounds : goal.returns-clause-rounds
returns-clause-rounds g c =
    c.in_ok-walker.ensures.rounds
    ∙ ap (λ (cs : List Coming). (walk_after (found_by c.in_ok-forest.forest.heads.items
    c.in_ok-forest.forest.loops.items) setting_out cs).rounds) c.deref-2.ensures.value
    ∙ rounds_whole c.args.steps.now c.in_ok-comings.comings.items c.in_ok-forest.forest.heads.items
    c.in_ok-forest.forest.loops.items (whole g (goal.at.returns-clause-rounds g c).In_ok-forest)

pub returns-clause-sound : goal.returns-clause-sound
returns-clause-sound g c =
    let w = whole g (goal.at.returns-clause-sound g c).In_ok-forest in
    are_sound c.args.steps.now _ _ _ _ _ _ _ (ap (λ (cs : List Coming). length cs) (sym w.is) ∙ w.many)
    (subst (λ (cs : List Coming). (k : ℕ) (z : Coming) → k < length cs
    → (get_or cs k z).place < length c.args.steps.now) w.is
    (λ k z h. let low = w.places k z h in omega (arith, low, w.many)))
    (returns-clause-heads g c) (returns-clause-visits g c) (returns-clause-ends g c) (returns-clause-innermost g c)
    (returns-clause-here g c) (returns-clause-rounds g c)

pub heads_to-requires : goal.heads_to-requires
heads_to-requires = grind (arith, common_steps)

pub find-requires-clause-places : goal.find-requires-clause-places
find-requires-clause-places = grind (arith, common_steps)
