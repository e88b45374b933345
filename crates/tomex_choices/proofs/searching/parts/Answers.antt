-- The threads' results, in the stretches' order.
use Rattle.std.proofs.Common.{◌∙◌, ap, sym, subst}
use Rattle.std.specs.List.{AllZip}
use Rattle.rayon.proofs.ToStd.{slice-AllZip}
use Rattle.tomex_choices.specs.Asking.{IsFoundIn}
use Rattle.tomex_survey.proofs.Oks.{AllZip-oks, if_ok}
use Rattle.tomex_choices.proofs.searching.parts.Goals as goal

pub returns : goal.returns
returns g c =
    let h = c.in_ok-outer.ensures in
    let m = c.map.ensures in
    let slice = ap (λ it. it.base.slice.now) m.base
    ∙ (ap (λ it. it.slice.now) c.with_min_len.ensures.base ∙ c.par_iter.ensures) in
    let chain = rw m.f at h.1 in
    if_ok c.in_ok-outer.field-0 _ _ _ h.2 (λ v p.
    let each = subst (AllZip _ chain.0) p.1 chain.2 in
    let oks = AllZip-oks _ (λ z f. IsFoundIn c.args.study.now z.now f) (λ z t q. q) chain.0 p.0 each in
    slice-AllZip chain.0 c.args.stretches.now (chain.1 ∙ slice) (λ s f. IsFoundIn c.args.study.now s f) v.items
    (subst (AllZip _ chain.0) (sym p.2) oks))
