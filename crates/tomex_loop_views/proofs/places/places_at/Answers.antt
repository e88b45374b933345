-- Each column has the entry of each loop.
use Rattle.std.proofs.Common.{arith}
use Rattle.std.proofs.lemmas.Grind.{common_steps}
use Rattle.std.proofs.Common.{◌≡◌, ◌∙◌, ℕ, List, ap, length, map, slice_index}
use Rattle.std.proofs.lemmas.List.{length-map}
use Rattle.tomex_symbols.specs.Symbols.{symbols_of}
use Rattle.tomex_run_views.specs.ByPlace.{pc_of}
use Rattle.tomex_loop_views.proofs.AtHeads.{are_places, heads_have}
use Rattle.tomex_loop_views.proofs.places.places_at.Goals as goal

pub functions_of-requires : goal.functions_of-requires
functions_of-requires g c =
    let heads : c.deref.result.now ≡ map (slice_index (map pc_of c.args.steps.now)) c.args.heads.now =
    c.deref.ensures.value ∙ c.in_ok-at_heads.ensures
    ∙ ap (λ (xs : List ℕ). map (slice_index xs) c.args.heads.now) c.requires.addresses in
    rw heads (heads_have c.args.steps.now c.args.heads.now c.requires.heads)

pub around_in-requires-clause-heads : goal.around_in-requires-clause-heads
around_in-requires-clause-heads g c =
    let same : length c.args.addresses.now ≡ length c.args.steps.now =
    ap (λ (xs : List ℕ). length xs) c.requires.addresses ∙ length-map c.args.steps.now pc_of in
    rw same c.requires.heads

pub returns : goal.returns
returns g c =
    are_places _ (symbols_of c.args.file.now) (map pc_of c.args.steps.now) c.args.heads.now c.args.visits.now
    c.args.here.now (rw c.requires.addresses at c.in_ok-at_heads.ensures)
    (rw c.deref.ensures.value at c.in_ok-functions.ensures) c.in_ok-extents.ensures.count
    (rw c.requires.addresses at c.in_ok-extents.ensures.extents) c.in_ok-around.ensures.count
    (rw c.requires.addresses at c.in_ok-around.ensures.groups)

pub at_steps-requires : goal.at_steps-requires
at_steps-requires = grind (arith, common_steps)

pub extents_in-requires-clause-pairs : goal.extents_in-requires-clause-pairs
extents_in-requires-clause-pairs = grind (arith, common_steps)
