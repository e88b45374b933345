-- One more list is looked up; at the end all are.
use Rattle.std.proofs.lemmas.Grind.{common_steps}
use Rattle.std.proofs.Common.{◌≡◌, ◌<◌, ◌≤◌, ◌∙◌, ap, arith, get_or, length, refl, subst, List}
use Rattle.std.proofs.lemmas.Option.{slice_get_read}
use Rattle.tomex_plateaus.specs.Kept.{Kept}
use Rattle.tomex_plateaus.specs.Knowledge.{IsKnowledge, KnowledgeOf}
use Rattle.tomex_plateaus.proofs.Knowing.{all_looked_up, among_eight, as_many, list_total, none_known, one_known, one_looked_up}
use Rattle.tomex_plateaus.proofs.knowledge.Knowledge.known_totals.Goals as goal

pub bounds-known-place : goal.bounds-known-place
bounds-known-place g c =
    let is : IsKnowledge c.args.self.now.programs c.args.self.now.lists = rw (← c.self.view_is) c.self.invariant in
    let same : c.deref-list-items.result.now ≡ c.args.self.now.lists =
    c.deref-list-items.ensures.value ∙ ap (λ (k : KnowledgeOf). k.lists) c.self.view_is in
    among_eight c.loop-place.place _ _
    (subst (λ (xs : List Kept). c.loop-place.place < length xs) same c.loop-place-test.true) (as_many _ _ is) is.few

pub loop-place-init : goal.loop-place-init
loop-place-init g c = record { known = refl; totals = none_known c.args.self.now.programs c.args.config.now }

pub loop-place-preserved : goal.loop-place-preserved
loop-place-preserved g c =
    let is : IsKnowledge c.args.self.now.programs c.args.self.now.lists = rw (← c.self.view_is) c.self.invariant in
    let same : c.deref-list-items.result.now ≡ c.args.self.now.lists =
    c.deref-list-items.ensures.value ∙ ap (λ (k : KnowledgeOf). k.lists) c.self.view_is in
    let low : c.loop-place.place < length c.args.self.now.lists =
    subst (λ (xs : List Kept). c.loop-place.place < length xs) same c.loop-place-test.true in
    let at : c.list-item.result ≡ get_or c.args.self.now.lists c.loop-place.place c.list-item.result =
    c.list-item.is ∙ ap (λ (xs : List Kept). get_or xs c.loop-place.place c.list-item.result) same in
    let many : length c.args.self.now.lists ≡ length c.args.self.now.programs = as_many _ _ is in
    let few : length c.args.self.now.programs ≤ 8 = is.few in
    let eight : length c.loop-place.known ≡ 8 = c.loop-place.invariant.totals.count in
    record {
      known = one_looked_up c.args.self.now.lists c.args.config.now _ c.loop-place.place c.list-item.result
          c.total_on.result low (omega (arith, low, many, few, eight)) at
          c.total_on.ensures.known c.loop-place.invariant.known;
      totals = one_known _ _ _ c.loop-place.place c.total_on.result c.loop-place.invariant.totals
          (list_total c.args.self.now.programs c.args.self.now.lists c.args.config.now c.loop-place.place
          c.list-item.result c.total_on.result is
          (slice_get_read c.args.self.now.lists _ c.loop-place.place c.list-item.result refl low at)
          c.total_on.ensures.total);
    }

pub returns-clause-known : goal.returns-clause-known
returns-clause-known g c =
    let is : IsKnowledge c.args.self.now.programs c.args.self.now.lists = rw (← c.self.view_is) c.self.invariant in
    let same : c.deref-list-items.result.now ≡ c.args.self.now.lists =
    c.deref-list-items.ensures.value ∙ ap (λ (k : KnowledgeOf). k.lists) c.self.view_is in
    all_looked_up c.args.self.now.programs c.args.self.now.lists c.args.config.now _ c.loop-place.place is
    (subst (λ (xs : List Kept). length xs ≤ c.loop-place.place) same c.loop-place-test.false)
    (subst (λ (xs : List Kept). c.loop-place.place ≤ length xs) same c.loop-place.auto.place-end)
    c.loop-place.invariant.known

pub returns-clause-totals : goal.returns-clause-totals
returns-clause-totals = grind (arith, common_steps)
