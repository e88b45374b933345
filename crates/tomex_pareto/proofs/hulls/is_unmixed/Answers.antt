-- Two rows decide; without one of them nothing is mixed.
use Rattle.std.proofs.Common.{◌∙◌, ap, not, sym}
use Rattle.tomex_pareto.proofs.Mixes.{mixed_by_two, unmixed_cheapest, unmixed_costliest}
use Rattle.tomex_pareto.proofs.hulls.is_unmixed.Goals as goal

pub returns-in-Some-Some : goal.returns-in-Some-Some
returns-in-Some-Some c = ap not (c.is_flatter.ensures
    ∙ mixed_by_two c.args.front.now c.args.row _ _ (sym c.flattest.ensures ∙ c.in-Some-Some.is-0)
    (sym c.steepest.ensures ∙ c.in-Some-Some.is-1))

pub returns-in-Some-None : goal.returns-in-Some-None
returns-in-Some-None c =
    ap not (unmixed_costliest c.args.front.now c.args.row (sym c.steepest.ensures ∙ c.in-Some-None.is-1))

pub returns-in-None-default : goal.returns-in-None-default
returns-in-None-default c =
    ap not (unmixed_cheapest c.args.front.now c.args.row (sym c.flattest.ensures ∙ c.in-None-default.is-0))
