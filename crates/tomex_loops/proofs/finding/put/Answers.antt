-- The new stop stands last.
use Rattle.std.proofs.lemmas.Grind.{common_steps}
use Rattle.std.proofs.Common.{◌≡◌, ◌++◌, ◌∷◌, [], ℕ, List, Some, None, get_or, set, length, subst, sym, arith}
use Rattle.std.proofs.lemmas.List.{get_or_read}
use Rattle.tomex_loops.specs.declared.finding.Stop.{Stop}
use Rattle.tomex_loops.specs.Ways.{AreStops}
use Rattle.tomex_loops.proofs.Stops.{pushed}
use Rattle.tomex_loops.proofs.finding.put.Goals as goal

pub returns-clause-at : goal.returns-clause-at
returns-clause-at g c =
    let at = c.args.at.now.items in
    let stops = c.args.stops.now.items in
    let s : Stop = record { place = c.args.place; before = c.index-before.result.now } in
    let was : c.index-before.result.now ≡ get_or c.args.at.now.items c.args.place None =
    get_or_read c.args.at.now.items c.args.place c.index-before.result.now c.requires.place c.index-before.ensures None
    in
    let n : length c.args.stops.now.items ≡ c.len-end.result = omega arith in
    subst (λ (xs : List Stop). AreStops xs (set c.args.at.now.items c.args.place (Some c.len-end.result)))
    (sym c.in_ok-push.ensures.items)
    (subst (λ (m : ℕ). AreStops (c.args.stops.now.items ++ s ∷ []) (set c.args.at.now.items c.args.place (Some m))) n
    (pushed c.args.stops.now.items s c.args.at.now.items c.requires.stops c.requires.place was))

pub returns-clause-places : goal.returns-clause-places
returns-clause-places = grind (arith, common_steps)
