-- A place that is known, and a new one.
use Rattle.std.proofs.Common.{◌≡◌, ◌≢◌, ◌∙◌, ◌+◌, arith, ℕ, Some, None, get_or, ap, sym, subst, ⊎_elim}
use Rattle.std.proofs.lemmas.Bool.{cases_eq}
use Rattle.std.proofs.lemmas.List.{get_or_default}
use Rattle.std.specs.BTreeMap.{get}
use Rattle.std.specs.Ordering.{nat_cmp}
use Rattle.tomex_rvexec.specs.declared.step.Step.{Step}
use Rattle.tomex_loops.specs.Calls.{place_of}
use Rattle.tomex_loops.specs.Places.{known_place}
use Rattle.tomex_loops.proofs.Places.{apart, found_place, grown_here, grown_other, kept, new_place}
use Rattle.tomex_loops.proofs.coming.place.Goals as goal

pub returns-in-Some-clause-place : goal.returns-in-Some-clause-place
returns-in-Some-clause-place g c = λ z.
    let r = c.index-steps-k.result in
    let e : Some c.in-Some.place ≡ known_place c.args.steps.now c.args.k (get_or c.args.steps.now c.args.k r).pc =
    c.in-Some.ensures ∙ c.get.ensures.value ∙ c.requires.known (get_or c.args.steps.now c.args.k r).pc in
    (found_place c.args.steps.now c.args.k r c.requires.within c.in-Some.place e).0
    ∙ ap (λ (x : Step). place_of c.args.steps.now x.pc)
    (get_or_default c.args.steps.now c.args.k r z c.requires.within)

pub returns-in-Some-clause-known : goal.returns-in-Some-clause-known
returns-in-Some-clause-known g c = λ a.
    let r = c.index-steps-k.result in
    let e : Some c.in-Some.place ≡ known_place c.args.steps.now c.args.k (get_or c.args.steps.now c.args.k r).pc =
    c.in-Some.ensures ∙ c.get.ensures.value ∙ c.requires.known (get_or c.args.steps.now c.args.k r).pc in
    c.requires.known a ∙ kept c.args.steps.now c.args.k r c.requires.within c.in-Some.place e a

pub returns-clause-place : goal.returns-clause-place
returns-clause-place g c = λ z.
    let r = c.index-steps-k.result in
    let e : None ≡ known_place c.args.steps.now c.args.k (get_or c.args.steps.now c.args.k r).pc =
    sym c.in_default.is ∙ c.copied.ensures ∙ c.get.ensures.value
    ∙ c.requires.known (get_or c.args.steps.now c.args.k r).pc in
    new_place c.args.steps.now c.args.k r c.requires.within e
    ∙ ap (λ (x : Step). place_of c.args.steps.now x.pc)
    (get_or_default c.args.steps.now c.args.k r z c.requires.within)

pub returns-clause-known : goal.returns-clause-known
returns-clause-known g c = λ a.
    let r = c.index-steps-k.result in
    let e : None ≡ known_place c.args.steps.now c.args.k (get_or c.args.steps.now c.args.k r).pc =
    sym c.in_default.is ∙ c.copied.ensures ∙ c.get.ensures.value
    ∙ c.requires.known (get_or c.args.steps.now c.args.k r).pc in
    ⊎_elim
    (λ (here : a ≡ (get_or c.args.steps.now c.args.k r).pc).
    subst (λ (b : ℕ). get nat_cmp c.insert.new.self b ≡ known_place c.args.steps.now (c.args.k + 1) b) (sym here)
    (c.in_ok-insert.ensures.updates.1 ∙ grown_here c.args.steps.now c.args.k r c.requires.within e))
    (λ (there : a ≢ (get_or c.args.steps.now c.args.k r).pc).
    c.in_ok-insert.ensures.updates.2 a (apart (get_or c.args.steps.now c.args.k r).pc a (λ q. there (sym q)))
    ∙ c.requires.known a ∙ grown_other c.args.steps.now c.args.k r c.requires.within a there)
    (cases_eq a (get_or c.args.steps.now c.args.k r).pc)

pub returns-in-Some-clause-below : goal.returns-in-Some-clause-below
returns-in-Some-clause-below g c =
    let r = c.index-steps-k.result in
    let e : Some c.in-Some.place ≡ known_place c.args.steps.now c.args.k (get_or c.args.steps.now c.args.k r).pc =
    c.in-Some.ensures ∙ c.get.ensures.value ∙ c.requires.known (get_or c.args.steps.now c.args.k r).pc in
    let is = found_place c.args.steps.now c.args.k r c.requires.within c.in-Some.place e in
    omega (arith, is.0, is.1, c.requires.within)
