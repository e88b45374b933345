-- Each turn takes the next visit.
use Rattle.std.proofs.Common.{ℕ, ◌<◌, ◌∙◌, arith, get_or, length, List, None, Option, rules, subst, sym}
use Rattle.std.proofs.lemmas.List.{get_or_read, length-set, take_all}
use Rattle.std.specs.Prelude.{IfSome, slice_index_or}
use Rattle.tomex_loop_sums.specs.Longest.{IsLongest}
use Rattle.tomex_loop_sums.proofs.Sofar.{longest_low, none_longest}
use Rattle.tomex_loop_sums.proofs.Longer.{longest_more}
use Rattle.tomex_loop_sums.proofs.longest.longest_of.Goals as goal

pub loop-v-preserved : goal.loop-v-preserved
loop-v-preserved g c =
    let small = c.requires.loops c.loop-v.v 0 c.loop-v-test.true in
    record {
      count = length-set c.loop-v.longest.items (get_or c.args.loops.now c.loop-v.v 0) c.longer_of.result
          ∙ c.loop-v.invariant.count;
      longest = λ n l. longest_more c.args.loops.now c.args.rounds.now c.loop-v.longest.items c.loop-v.v n
          c.index.result.now c.longer_of.result c.loop-v-test.true (omega (arith, small, c.loop-v.invariant.count))
          c.index.ensures c.longer_of.ensures (c.loop-v.invariant.longest n l);
    }

pub returns-clause-longest : goal.returns-clause-longest
returns-clause-longest g c = λ n l.
    subst (λ (loops : List ℕ). IsLongest n loops c.args.rounds.now (slice_index_or c.loop-v.longest.items n None))
    (take_all c.loop-v.v c.args.loops.now c.loop-v-test.false) (c.loop-v.invariant.longest n l)

pub longer_of-requires-clause-longest : goal.longer_of-requires-clause-longest
longer_of-requires-clause-longest g c =
    let n = get_or c.args.loops.now c.loop-v.v 0 in
    let small = c.requires.loops c.loop-v.v 0 c.loop-v-test.true in
    let within = subst (λ (m : ℕ). n < m) (sym c.loop-v.invariant.count) small in
    let same = get_or_read c.loop-v.longest.items n c.index.result.now within c.index.ensures None in
    subst (λ (o : Option ℕ). IfSome o (λ u. u < length c.args.rounds.now)) (sym same)
    (longest_low n c.loop-v.v (length c.args.rounds.now) c.args.loops.now c.args.rounds.now _ c.loop-v-test.true
    (c.loop-v.invariant.longest n small) c.requires.pairs)

pub index_mut-requires : goal.index_mut-requires
index_mut-requires g c =
    subst (λ (m : ℕ). get_or c.args.loops.now c.loop-v.v 0 < m)
    (sym (c.loop-v.longest.ok.0 ∙ c.loop-v.invariant.count)) (c.requires.loops c.loop-v.v 0 c.loop-v-test.true)

pub index-requires : goal.index-requires
index-requires g c =
    subst (λ (m : ℕ). get_or c.args.loops.now c.loop-v.v 0 < m)
    (sym (c.loop-v.longest.ok.0 ∙ c.loop-v.invariant.count)) (c.requires.loops c.loop-v.v 0 c.loop-v-test.true)

pub loop-v-init : goal.loop-v-init
loop-v-init g c =
    let none = c.in_ok-longest.ensures.items_if_clones_equal (λ y e. search rules) in
    record {
      count = sym c.in_ok-longest.longest.ok.0 ∙ c.in_ok-longest.ensures.len;
      longest = λ n l. none_longest n c.args.count c.args.rounds.now _ none l;
    }
