-- One more program takes the same cycles from a number on; at the end all do.
use Rattle.std.proofs.Common.{◌≡◌, ◌<◌, ◌≤◌, ◌∙◌, ap, arith, get_or, length, refl, subst, List}
use Rattle.std.proofs.lemmas.Grind.{common_steps}
use Rattle.std.proofs.lemmas.Option.{slice_get_read}
use Rattle.tomex_plateaus.specs.Kept.{Kept}
use Rattle.tomex_plateaus.specs.Knowledge.{IsKnowledge, KnowledgeOf}
use Rattle.tomex_plateaus.proofs.Knowing.{as_many}
use Rattle.tomex_plateaus.proofs.Reaching.{all_before, one_before}
use Rattle.tomex_plateaus.proofs.knowledge.Knowledge.reach.Goals as goal

pub loop-list-preserved : goal.loop-list-preserved
loop-list-preserved g c =
    let is : IsKnowledge c.args.self.now.programs c.args.self.now.lists = rw (← c.self.view_is) c.self.invariant in
    let same : c.deref-list-items.result.now ≡ c.args.self.now.lists =
    c.deref-list-items.ensures.value ∙ ap (λ (k : KnowledgeOf). k.lists) c.self.view_is in
    let low : c.loop-list.list-index < length c.args.self.now.lists =
    subst (λ (xs : List Kept). c.loop-list.list-index < length xs) same c.loop-list-test.true in
    let at : c.list-item.result ≡ get_or c.args.self.now.lists c.loop-list.list-index c.list-item.result =
    c.list-item.is ∙ ap (λ (xs : List Kept). get_or xs c.loop-list.list-index c.list-item.result) same in
    one_before c.args.self.now.programs c.args.self.now.lists c.args.config.now c.args.part c.loop-list.low
    c.reach.result c.max-low.result c.loop-list.list-index c.list-item.result (grind (arith, common_steps))
    (grind (arith, common_steps)) is
    (slice_get_read c.args.self.now.lists _ c.loop-list.list-index c.list-item.result refl low at) c.reach.ensures
    c.loop-list.invariant

pub returns : goal.returns
returns g c =
    let is : IsKnowledge c.args.self.now.programs c.args.self.now.lists = rw (← c.self.view_is) c.self.invariant in
    let same : c.deref-list-items.result.now ≡ c.args.self.now.lists =
    c.deref-list-items.ensures.value ∙ ap (λ (k : KnowledgeOf). k.lists) c.self.view_is in
    let past : length c.args.self.now.lists ≤ c.loop-list.list-index =
    subst (λ (xs : List Kept). length xs ≤ c.loop-list.list-index) same c.loop-list-test.false in
    let many = as_many c.args.self.now.programs c.args.self.now.lists is in
    all_before c.args.self.now.programs c.args.config.now c.args.part c.loop-list.low c.loop-list.list-index
    (omega (arith, past, many)) c.loop-list.invariant
