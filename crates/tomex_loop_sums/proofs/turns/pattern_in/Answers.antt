-- The pattern of the visit's rounds.
use Rattle.std.proofs.Common.{[], sym, length, ◌<◌}
use Rattle.std.specs.Prelude.{MatchOption}
use Rattle.std.specs.Option.{option_map}
use Rattle.std.proofs.lemmas.List.{get_or-map}
use Rattle.std.proofs.lemmas.Result.{IfOk-weaker}
use Rattle.tomex_loop_sums.specs.OfLoop.{PatternIs}
use Rattle.tomex_loops.specs.Pattern.{HasNoPattern, IsPattern}
use Rattle.tomex_loop_sums.proofs.Repeating.{pattern_found}
use Rattle.tomex_loop_sums.proofs.turns.pattern_in.Goals as goal

pub returns-in-Some : goal.returns-in-Some
returns-in-Some g c =
    let small : c.in-Some.visit < length c.args.rounds.now = rw c.in-Some.is at c.requires in
    let read = get_or-map (λ group. group.items) c.args.rounds.now c.in-Some.visit c.index-rounds-visit.result []
    small in
    rw (c.in-Some.is, read, sym c.index-rounds-visit.is, sym c.deref.ensures.value)
    (IfOk-weaker c.pattern_of.result
    (λ found. MatchOption found (HasNoPattern c.deref.result.now) (λ counts. IsPattern c.deref.result.now counts.items))
    (λ found. PatternIs c.deref.result.now (option_map (λ counts. counts.items) found))
    (λ found is. pattern_found (λ counts. counts.items) c.deref.result.now found is) c.pattern_of.ensures)
