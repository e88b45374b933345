-- The changes of one more list; after the last one they are all, and rows of the study.
use Rattle.std.proofs.Common.{◌≡◌, ◌<◌, ◌-◌, ◌∙◌, ◌++◌, ℕ, ap, arith, length, subst, sym, All}
use Rattle.std.specs.List.{flat_map, range_with_len}
use Rattle.std.proofs.lemmas.List.{append-nil}
use Rattle.std.proofs.lemmas.List.Elements.{All-get_or}
use Rattle.tomex_layout.proofs.Loops.{number_more}
use Rattle.tomex_worth.specs.Changes.{changes_at, changes_of}
use Rattle.tomex_worth.specs.declared.changes.Change.{Change}
use Rattle.tomex_worth.proofs.Rows.{changes_within}
use Rattle.tomex_worth.proofs.changes.changes_of.Goals as goal

pub loop-place-preserved : goal.loop-place-preserved
loop-place-preserved g c =
    number_more (changes_at c.args.surveyed.now c.args.own) c.loop-place.place 13 _ _ _ c.loop-place-test.true
    c.in_ok-push_changes_at.ensures c.loop-place.invariant

pub returns-clause-within : goal.returns-clause-within
unfolding changes_of
returns-clause-within g c =
    let s = c.args.surveyed.now in
    let k = c.loop-place.place in
    let made = c.loop-place.changes.items in
    let IsRowOf : Change → Type 0 = λ x. x.row.row < length s.rows in
    let none : 13 - k ≡ 0 = omega (arith, c.loop-place-test.false) in
    let all : made ≡ changes_of s c.args.own =
    sym (append-nil made)
    ∙ (ap (λ (n : ℕ). made ++ flat_map (changes_at s c.args.own) (range_with_len k n)) (sym none)
    ∙ c.loop-place.invariant) in
    λ i d within. All-get_or IsRowOf _ i d within
    (subst (All IsRowOf) (sym all) (changes_within s c.args.own c.keeps_limits.ensures))
