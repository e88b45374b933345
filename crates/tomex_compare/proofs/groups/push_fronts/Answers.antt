-- The marks are those of the builds' own fronts.
use Rattle.std.proofs.Common.{◌∙◌, ◌<◌, ap, codes, length, List, ℕ, subst, sym, arith}
use Rattle.std.proofs.lemmas.Grind.{common_steps}
use Rattle.std.proofs.lemmas.List.Elements.{All-get_or}
use Rattle.std.specs.Prelude.{All}
use Rattle.tomex_compare.specs.Groups.{RowGroup, front_group, on_front, own_front}
use Rattle.tomex_compare.specs.declared.pairs.Pair.{Pair}
use Rattle.tomex_compare.proofs.Marks.{marks_long, still_within}
use Rattle.tomex_compare.proofs.Steps.{three_pushed}
use Rattle.tomex_compare.proofs.groups.push_fronts.Goals as goal

pub front_group-requires-3 : goal.front_group-requires-3
front_group-requires-3 g c =
    let s = c.args.surveyed.now in
    let front = own_front s c.args.old.now.program.now in
    let old = c.in_ok-of_old.ensures front
    (marks_long front (length s.rows) _ _ c.in_ok-on_old.ensures c.as_slice.ensures.value) in
    let those = c.as_slice-3.ensures.value ∙ ap (λ (group : RowGroup). group.pairs) (c.of_old.view_is ∙ old) in
    let many = ap length c.as_slice-4.ensures.value ∙ c.in_ok-on_new.ensures.many in
    let IsRow : Pair → Type 0 = λ p. p.row < length c.as_slice-4.result.now in
    λ k d l. All-get_or IsRow _ k d l
    (subst (λ (n : ℕ). All (λ (p : Pair). p.row < n) c.as_slice-3.result.now) (sym many)
    (still_within front c.args.pairs.now c.as_slice-3.result.now (length s.rows) those c.requires.pairs))

pub returns : goal.returns
returns g c =
    let s = c.args.surveyed.now in
    let pairs = c.args.pairs.now in
    let on_old = own_front s c.args.old.now.program.now in
    let on_new = own_front s c.args.new.now.program.now in
    let old = c.in_ok-of_old.ensures on_old
    (marks_long on_old (length s.rows) _ _ c.in_ok-on_old.ensures c.as_slice.ensures.value)
    ∙ ap (λ (name : List ℕ). front_group name (on_front on_old pairs)) c.name.ensures.value in
    let new = c.in_ok-of_new.ensures on_new
    (marks_long on_new (length s.rows) _ _ c.in_ok-on_new.ensures c.as_slice-2.ensures.value)
    ∙ ap (λ (name : List ℕ). front_group name (on_front on_new pairs)) c.name-2.ensures.value in
    let those = c.as_slice-3.ensures.value ∙ ap (λ (group : RowGroup). group.pairs) (c.of_old.view_is ∙ old) in
    let both = c.in_ok-of_both.ensures on_new
    (marks_long on_new (length s.rows) _ _ c.in_ok-on_new.ensures c.as_slice-4.ensures.value)
    ∙ ap (λ (ps : List Pair). front_group (codes "both") (on_front on_new ps)) those in
    three_pushed c.args.groups.now.items _ _ _ _ _ _ _ _ _ c.in_ok-push.ensures.items c.in_ok-push-2.ensures.items
    c.in_ok-push-3.ensures.items old new both

pub front_group-requires : goal.front_group-requires
front_group-requires = grind (arith, common_steps)

pub front_group-requires-2 : goal.front_group-requires-2
front_group-requires-2 = grind (arith, common_steps)
