use Rattle.std.proofs.lemmas.Grind.{common_steps}
use Rattle.std.proofs.Common.{rules, ◌≡◌, ℕ, ◌∙◌, List, ap, arith, drop, length, subst, sym}
use Rattle.std.proofs.lemmas.List.{length-replicate, take_at}
use Rattle.std.specs.Prelude.{replicate}
use Rattle.tomex_samples.specs.Near.{AreGroupSums}
use Rattle.tomex_samples.proofs.Shown.{zero_at}
use Rattle.tomex_samples.proofs.groups.sums_of.Goals as goal

pub add_group-requires-clause-none : goal.add_group-requires-clause-none
add_group-requires-clause-none g c =
    let zeros : c.in_ok-sums.sums.items ≡ replicate c.args.stretches.now.words 0 = search rules in
    λ w. zero_at c.deref_mut.result.now c.args.stretches.now.words w (c.deref_mut.ensures.value ∙ zeros)

pub returns-clause-sums : goal.returns-clause-sums
returns-clause-sums g c = λ run of.
    let zeros : c.in_ok-sums.sums.items ≡ replicate c.args.stretches.now.words 0 = search rules in
    let size : length c.deref_mut.result.now ≡ c.args.stretches.now.words =
    ap length (c.deref_mut.ensures.value ∙ zeros) ∙ length-replicate c.args.stretches.now.words 0 in
    let all : length c.add_group.new.sums ≡ c.in_ok-sums.sums.len = omega (arith, c.add_group.auto.sums, size) in
    subst (λ (xs : List ℕ). AreGroupSums run c.args.near.now c.args.leader (length c.args.near.now) xs)
    (sym (take_at c.add_group.new.sums (drop (length c.add_group.new.sums) c.in_ok-sums.sums.items)
    c.in_ok-sums.sums.len all)) (c.add_group.ensures run of)

pub returns-clause-words : goal.returns-clause-words
returns-clause-words = grind (arith, common_steps)
