-- Each kept state can be compared, and one that looks like the given one is the one that is wanted.
use Rattle.std.proofs.Common.{◌<◌, ◌∙◌, arith, length, subst}
use Rattle.std.proofs.lemmas.List.{get_or_default}
use Rattle.tomex_states.specs.Reuse.{LookAlike}
use Rattle.tomex_states.specs.declared.state.State.{State}
use Rattle.tomex_evaluation.proofs.Shown.{usable_at}
use Rattle.tomex_evaluation.proofs.known.Known.find.Goals as goal

pub looks_like-requires-clause-shows : goal.looks_like-requires-clause-shows
looks_like-requires-clause-shows g c =
    let states = c.args.self.now.states.items in
    let e = c.deref-kept-items.ensures.value in
    let l : c.loop-number.number < length states = omega (arith, c.deref-kept-items.ensures.len) in
    (usable_at c.args.config.now states c.loop-number.number c.kept-item.result c.requires.kept l
    (rw e at c.kept-item.is)).shows

pub looks_like-requires-clause-small : goal.looks_like-requires-clause-small
looks_like-requires-clause-small g c =
    let states = c.args.self.now.states.items in
    let e = c.deref-kept-items.ensures.value in
    let l : c.loop-number.number < length states = omega (arith, c.deref-kept-items.ensures.len) in
    (usable_at c.args.config.now states c.loop-number.number c.kept-item.result c.requires.kept l
    (rw e at c.kept-item.is)).small

pub returns-then-looks_like : goal.returns-then-looks_like
returns-then-looks_like g c =
    let states = c.args.self.now.states.items in
    let state = c.args.state.now in
    let e = c.deref-kept-items.ensures.value in
    let l : c.loop-number.number < length states = omega (arith, c.deref-kept-items.ensures.len) in
    let is = rw e at c.kept-item.is in
    let kept = usable_at c.args.config.now states c.loop-number.number c.kept-item.result c.requires.kept l is in
    let alike = c.looks_like.ensures.alike c.if-looks_like.true kept.kept c.requires.state.kept in
    let read = get_or_default states c.loop-number.number c.kept-item.result state l in
    let P : State g.row.A.Denot → Type 0 = λ x. LookAlike c.args.config.now x state in
    (l, subst P (is ∙ read) alike)
