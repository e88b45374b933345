-- Each program takes a cycle at least, so the pairs can be sorted by ratio; they are rows of the study.
use Rattle.std.proofs.Common.{◌∙◌, ◌<◌, ap, length, subst, sym, All}
use Rattle.std.proofs.lemmas.List.Elements.{All-get_or}
use Rattle.tomex_compare.specs.Pairs.{AreComparable, by_ratio, pairs_of}
use Rattle.tomex_compare.specs.declared.pairs.Pair.{Pair}
use Rattle.tomex_compare.proofs.Comparable.{comparable, pairs_within, there}
use Rattle.tomex_compare.proofs.pairs.pairs_of.Goals as goal

pub sort_by_ratio-requires : goal.sort_by_ratio-requires
sort_by_ratio-requires g c =
    subst AreComparable (sym c.in_ok-pairs.ensures)
    (comparable c.args.surveyed.now c.args.old.now.program.now c.args.new.now.program.now c.keeps_limits.ensures
    (there c.args.surveyed.now c.args.old.now.place c.args.old.now.program.now c.requires.old))

pub returns-clause-pairs : goal.returns-clause-pairs
unfolding pairs_of
returns-clause-pairs g c = c.sort_by_ratio.ensures ∙ ap by_ratio c.in_ok-pairs.ensures

pub returns-clause-within : goal.returns-clause-within
unfolding pairs_of
returns-clause-within g c =
    let s = c.args.surveyed.now in
    let IsRowOf : Pair → Type 0 = λ p. p.row < length s.rows in
    let all = c.sort_by_ratio.ensures ∙ ap by_ratio c.in_ok-pairs.ensures in
    λ i d within. All-get_or IsRowOf _ i d within
    (subst (All IsRowOf) (sym all) (pairs_within s c.args.old.now.program.now c.args.new.now.program.now))
