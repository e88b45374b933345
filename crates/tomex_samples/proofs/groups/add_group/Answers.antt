use Rattle.std.proofs.lemmas.Grind.{common_steps}
use Rattle.std.proofs.Common.{◌≡◌, ℕ, ◌+◌, ◌*◌, ◌<◌, ◌≤◌, List, length, ◌∙◌, arith, subst, sym}
use Rattle.std.proofs.lemmas.List.{get_or_default}
use Rattle.std.proofs.lemmas.Nat.{mul-le}
use Rattle.std.specs.Prelude.{slice_index_or}
use Rattle.tomex_cut.specs.Part.{most_part}
use Rattle.tomex_samples.specs.declared.nearness.Near.{Near}
use Rattle.tomex_samples.specs.Leaders.{counts_at}
use Rattle.tomex_samples.specs.Near.{AreGroupSums}
use Rattle.tomex_samples.specs.Stretches.{most_stretches}
use Rattle.tomex_samples.proofs.Grouped.{grouped_most, grouped_no, grouped_yes}
use Rattle.tomex_samples.proofs.Shown.{count_most, row_read}
use Rattle.tomex_samples.proofs.groups.add_group.Goals as goal
use Rattle.tomex_samples.proofs.groups.add_group.Goals.{then-near-k, else-near-k}

pub add_row-requires : goal.add_row-requires
add_row-requires g c =
    let r = c.requires.shown in
    let k = c.loop-k.k in
    let inside : k < length c.args.stretches.now.parts.items = omega arith in
    let row = row_read c.args.stretches.now r.0 k _ _ r.1 inside c.index.ensures c.deref.ensures.value in
    let size : length (counts_at r.0 k) ≡ length c.loop-k.sums = omega (arith, row.size) in (
      counts_at r.0 k,
      row.sparse,
      size,
      λ w.
          let sums = (c.loop-k.invariant r.0 r.1).each w in
          let most = grouped_most r.0 c.args.near.now c.args.leader w c.args.stretches.now.steps k
          (λ j h. let within : j < length c.args.stretches.now.parts.items = omega arith in
          count_most _ _ _ _ w (r.1.rows_are j within)) in
          let few : k ≤ most_stretches = omega (arith, r.1.not_many) in
          let all : k * c.args.stretches.now.steps ≤ most_stretches * most_part =
          mul-le k c.args.stretches.now.steps most_stretches most_part few r.1.few in
          omega (arith, sums, most, all, count_most _ _ _ _ w row, r.1.few),
    )

pub loop-k-preserved : goal.loop-k-preserved
loop-k-preserved g c = λ run of.
    let none : Near = record { leader = 0; distance = 0 } in
    let k = c.loop-k.k in
    let within : k < length c.args.near.now = omega arith in
    let r = slice_index_or c.args.near.now k none in
    let read : r ≡ slice_index_or c.args.near.now k r = get_or_default c.args.near.now k none r within in
    let s = c.loop-k.invariant run of in
    let inside : k < length c.args.stretches.now.parts.items = omega arith in
    elim c.if-near-k.branch [
      | then-near-k w ↦
          let row = row_read c.args.stretches.now run k _ _ of inside w.index.ensures w.deref.ensures.value in
          let size : length c.loop-k.sums ≡ c.args.stretches.now.words = omega arith in
          subst (λ (xs : List ℕ). AreGroupSums run c.args.near.now c.args.leader (k + 1) xs) (sym w.sums-is)
          (grouped_yes run c.args.near.now c.args.leader k c.args.stretches.now.words c.loop-k.sums
          w.add_row.new.sums r s within read w.if-near-k.true
          (w.add_row.ensures (counts_at run k) row.sparse (row.size ∙ sym size)) w.add_row.auto.sums size row.size)
      | else-near-k w ↦
          subst (λ (xs : List ℕ). AreGroupSums run c.args.near.now c.args.leader (k + 1) xs) (sym w.sums-is)
          (grouped_no run c.args.near.now c.args.leader k c.loop-k.sums r s within read w.if-near-k.false)
    ]

pub index-requires : goal.index-requires
index-requires = grind (arith, common_steps)
