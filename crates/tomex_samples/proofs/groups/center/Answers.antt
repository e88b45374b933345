use Rattle.std.proofs.Common.{ℕ, ◌*◌, ◌<◌, ◌∙◌, List, ap, arith, length, subst, sym}
use Rattle.std.proofs.lemmas.List.Sums.{count_by-le-length}
use Rattle.std.specs.Prelude.{◌==◌}
use Rattle.tomex_samples.specs.declared.nearness.Near.{Near}
use Rattle.tomex_samples.specs.Near.{AreGroupSums}
use Rattle.tomex_samples.proofs.Centers.{center_is, group_steps}
use Rattle.tomex_samples.proofs.Renewed.{found_inside}
use Rattle.tomex_samples.proofs.groups.center.Goals as goal

pub center_by-requires-clause-sum : goal.center_by-requires-clause-sum
center_by-requires-clause-sum g c =
    let r = c.requires.shown in
    let near = c.args.near.now in
    let steps = c.args.stretches.now.steps in
    let words = c.args.stretches.now.words in
    let items = c.as_slice.ensures.value in
    let sums : AreGroupSums r.0 near c.args.leader (length near) c.as_slice.result.now =
    subst (λ (xs : List ℕ). AreGroupSums r.0 near c.args.leader (length near) xs) (sym items)
    (c.in_ok-sums.ensures.sums r.0 r.1) in
    let size = ap length items ∙ c.in_ok-sums.ensures.words in
    group_steps r.0 near c.args.leader steps words c.as_slice.result.now sums size
    (λ k h. let inside : k < length c.args.stretches.now.parts.items = omega (arith, h, c.requires.number) in
    let row = r.1.rows_are k inside in row.sum)
    ∙ ap (λ n. n * steps) (sym c.members-times.ensures)

pub center_by-requires-clause-few : goal.center_by-requires-clause-few
center_by-requires-clause-few g c =
    let most = count_by-le-length (λ (x : Near). x.leader == c.args.leader) c.args.near.now in
    omega (arith, most, c.members-times.ensures, c.requires.number, c.requires.shown.1.not_many)

pub returns-clause-center : goal.returns-clause-center
returns-clause-center g c = λ run of.
    let near = c.args.near.now in
    let items = c.as_slice.ensures.value in
    let sums : AreGroupSums run near c.args.leader (length near) c.as_slice.result.now =
    subst (λ (xs : List ℕ). AreGroupSums run near c.args.leader (length near) xs) (sym items)
    (c.in_ok-sums.ensures.sums run of) in
    let size = ap length items ∙ c.in_ok-sums.ensures.words in
    let inside = found_inside c.args.stretches.now.parts.items c.args.leader c.requires.can in
    let row = of.rows_are c.args.leader inside in
    c.center_by.ensures.center run of
    ∙ center_is run near c.args.leader c.members-times.result c.args.stretches.now.words c.as_slice.result.now
    c.members-times.ensures sums size row.size (c.requires.number ∙ sym (ap length of.parts_are))
