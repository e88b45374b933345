-- The list stays that of its program, and no other list is written.
use Rattle.std.proofs.lemmas.Grind.{common_steps}
use Rattle.std.proofs.Common.{◌≡◌, ◌<◌, arith, length, refl}
use Rattle.std.proofs.lemmas.Option.{slice_get_read}
use Rattle.tomex_plateaus.proofs.Knowing.{as_many, learnt_ok, learnt_one, learnt_total, only_there}
use Rattle.tomex_plateaus.proofs.knowledge.Knowledge.learn_of.Goals as goal

pub invariant_of-self : goal.invariant_of-self
invariant_of-self g c = learnt_one _ _ _ c.index_mut.result.now c.learn.new.self c.self.invariant
    c.index_mut.ensures.value c.learn.ensures.steps

pub returns-clause-total : goal.returns-clause-total
returns-clause-total g c =
    let many : length c.self.inside.lists.items ≡ length c.self.inside.programs.now = as_many _ _ c.self.invariant in
    let place : c.args.place < length c.self.inside.programs.now = rw (← c.self.view_is) at c.requires in
    let low : c.args.place < length c.self.inside.lists.items = omega arith in
    rw (← c.self.view_is)
    (learnt_total c.self.inside.programs.now c.self.inside.lists.items c.args.config.now c.args.place
    c.index_mut.result.now c.learn.result c.self.invariant
    (slice_get_read c.self.inside.lists.items _ c.args.place c.index_mut.result.now refl low c.index_mut.ensures.value)
    c.learn.ensures.total)

pub returns-clause-others : goal.returns-clause-others
returns-clause-others g c = rw (← c.self.view_is) (only_there c.args.place _ _)

pub returns-clause-learnt : goal.returns-clause-learnt
returns-clause-learnt g c =
    let many : length c.self.inside.lists.items ≡ length c.self.inside.programs.now = as_many _ _ c.self.invariant in
    let place : c.args.place < length c.self.inside.programs.now = rw (← c.self.view_is) at c.requires in
    let low : c.args.place < length c.self.inside.lists.items = omega arith in
    rw (← c.self.view_is)
    (learnt_ok c.args.config.now c.args.place c.self.inside.lists.items c.index_mut.result.now c.learn.new.self
    c.learn.result low c.index_mut.ensures.value c.learn.ensures.learnt)

pub index_mut-requires : goal.index_mut-requires
index_mut-requires = grind (arith, common_steps)
