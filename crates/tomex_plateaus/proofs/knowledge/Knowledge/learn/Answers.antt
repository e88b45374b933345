-- One more total is found, and learnt if it wasn't known; at the end all are.
use Rattle.std.proofs.Common.{◌<◌, ◌≤◌, length, subst}
use Rattle.tomex_plateaus.specs.Knowledge.{IsKnowledge, KnowledgeOf}
use Rattle.tomex_plateaus.proofs.Knowing.{all_learnt, as_many, one_more_learnt}
use Rattle.tomex_plateaus.proofs.knowledge.Knowledge.learn.Goals as goal

pub loop-place-preserved : goal.loop-place-preserved
loop-place-preserved g c =
    let is : IsKnowledge c.args.self.now.programs c.args.self.now.lists = rw (← c.self.view_is) c.self.invariant in
    let low : c.loop-place.place < length c.args.self.now.programs =
    subst (λ (k : KnowledgeOf). c.loop-place.place < length k.programs) c.self.view_is c.loop-place-test.true in
    one_more_learnt c.in_ok-totals.field-0 is.few low c.loop-place.invariant c.total_of.ensures.programs
    c.in_ok-totals.ensures.total c.total_of.ensures.others c.in_ok-totals.ensures.learnt

pub returns-clause-totals : goal.returns-clause-totals
returns-clause-totals g c =
    let is : IsKnowledge c.args.self.now.programs c.args.self.now.lists = rw (← c.self.view_is) c.self.invariant in
    let past : length c.args.self.now.programs ≤ c.loop-place.place =
    subst (λ (k : KnowledgeOf). length k.programs ≤ c.loop-place.place) c.self.view_is c.loop-place-test.false in
    let within : c.loop-place.place ≤ length c.args.self.now.programs =
    subst (λ (k : KnowledgeOf). c.loop-place.place ≤ length k.programs) c.self.view_is c.loop-place.auto.place-end in
    (all_learnt c.args.self.now.programs c.args.config.now c.args.known c.args.self.now c.loop-place.self
    c.loop-place.place c.loop-place.totals c.loop-place.invariant past (as_many _ _ is) within).0

pub returns-clause-learnt : goal.returns-clause-learnt
returns-clause-learnt g c =
    let is : IsKnowledge c.args.self.now.programs c.args.self.now.lists = rw (← c.self.view_is) c.self.invariant in
    let past : length c.args.self.now.programs ≤ c.loop-place.place =
    subst (λ (k : KnowledgeOf). length k.programs ≤ c.loop-place.place) c.self.view_is c.loop-place-test.false in
    let within : c.loop-place.place ≤ length c.args.self.now.programs =
    subst (λ (k : KnowledgeOf). c.loop-place.place ≤ length k.programs) c.self.view_is c.loop-place.auto.place-end in
    (all_learnt c.args.self.now.programs c.args.config.now c.args.known c.args.self.now c.loop-place.self
    c.loop-place.place c.loop-place.totals c.loop-place.invariant past (as_many _ _ is) within).1
