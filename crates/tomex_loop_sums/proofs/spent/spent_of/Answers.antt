-- Each list has what it is the sums of.
use Rattle.std.proofs.Common.{ℕ, ◌<◌, ◌∙◌, ap, length, List, map, subst, sym, arith}
use Rattle.std.proofs.lemmas.Grind.{common_steps}
use Rattle.std.specs.Prelude.{All}
use Rattle.std.proofs.lemmas.List.{length-map}
use Rattle.tomex_loops.specs.Sound.{AreEnds}
use Rattle.tomex_rvexec.specs.declared.step.Step.{Step}
use Rattle.tomex_stretches.specs.Accounts.{own_in}
use Rattle.tomex_stretches.proofs.Totals.{length_own}
use Rattle.tomex_loop_sums.proofs.Outside.{keys_low, same_sum}
use Rattle.tomex_loop_sums.proofs.Sofar.{few_cycles, few_ones, few_steps, fits_word}
use Rattle.tomex_loop_sums.proofs.spent.spent_of.Goals as goal

pub sums_in_visits-requires-clause-few : goal.sums_in_visits-requires-clause-few
sums_in_visits-requires-clause-few g c =
    let ones = c.deref.ensures.value
    ∙ (c.in_ok-ones.ensures ∙ ap (λ (xs : List Step). map {B = ℕ} (λ x. 1) xs) c.steps.ensures) in
    few_ones c.args.run.now _ ones c.requires.few

pub sums_in_visits-requires-clause-steps : goal.sums_in_visits-requires-clause-steps
sums_in_visits-requires-clause-steps g c =
    let ones = c.deref.ensures.value
    ∙ (c.in_ok-ones.ensures ∙ ap (λ (xs : List Step). map {B = ℕ} (λ x. 1) xs) c.steps.ensures) in
    let many = ap length ones ∙ length-map {B = ℕ} c.args.run.now (λ x. 1) in
    fits_word _ _ many c.requires.few

pub sums_in_visits-requires-clause-first : goal.sums_in_visits-requires-clause-first
sums_in_visits-requires-clause-first g c =
    let ones = c.deref.ensures.value
    ∙ (c.in_ok-ones.ensures ∙ ap (λ (xs : List Step). map {B = ℕ} (λ x. 1) xs) c.steps.ensures) in
    let many = ap length ones ∙ length-map {B = ℕ} c.args.run.now (λ x. 1) in
    subst (λ (n : ℕ). All (λ v. v.first < n) c.args.visits.now) (sym many) c.requires.first

pub sums_in_visits-requires-clause-ends : goal.sums_in_visits-requires-clause-ends
sums_in_visits-requires-clause-ends g c =
    let ones = c.deref.ensures.value
    ∙ (c.in_ok-ones.ensures ∙ ap (λ (xs : List Step). map {B = ℕ} (λ x. 1) xs) c.steps.ensures) in
    let many = ap length ones ∙ length-map {B = ℕ} c.args.run.now (λ x. 1) in
    subst (λ (n : ℕ). AreEnds n c.args.visits.now c.args.ends.now) (sym many) c.requires.ends

pub sums_in_visits-requires-2-clause-steps : goal.sums_in_visits-requires-2-clause-steps
sums_in_visits-requires-2-clause-steps g c =
    let many = ap length c.deref-2.ensures.value ∙ c.in_ok-own.ensures.many in
    fits_word _ _ many c.requires.few

pub sums_in_visits-requires-2-clause-few : goal.sums_in_visits-requires-2-clause-few
sums_in_visits-requires-2-clause-few g c =
    few_cycles (length c.args.run.now) _ _ c.deref-2.ensures.value c.in_ok-own.ensures.most c.requires.few

pub sums_in_visits-requires-2-clause-first : goal.sums_in_visits-requires-2-clause-first
sums_in_visits-requires-2-clause-first g c =
    let many = ap length c.deref-2.ensures.value ∙ c.in_ok-own.ensures.many in
    subst (λ (n : ℕ). All (λ v. v.first < n) c.args.visits.now) (sym many) c.requires.first

pub sums_in_visits-requires-2-clause-ends : goal.sums_in_visits-requires-2-clause-ends
sums_in_visits-requires-2-clause-ends g c =
    let many = ap length c.deref-2.ensures.value ∙ c.in_ok-own.ensures.many in
    subst (λ (n : ℕ). AreEnds n c.args.visits.now c.args.ends.now) (sym many) c.requires.ends

pub accounts_of-requires-clause-keys : goal.accounts_of-requires-clause-keys
accounts_of-requires-clause-keys g c = rw c.requires.keys
    (keys_low c.args.count c.args.visits.now c.args.innermost.now c.requires.loops c.requires.innermost)

pub returns : goal.returns
returns g c = record {
  steps_of_all = c.in_ok-sums_in_visits.ensures.count;
  cycles_of_all = c.in_ok-sums_in_visits-2.ensures.count;
  own_of_all = c.in_ok-accounts_of.ensures.own.many;
  floor_of_all = c.in_ok-accounts_of.ensures.floor.many;
  each = λ n l. record {
    many_is = same_sum n _ (length c.args.run.now) c.args.visits.now c.args.ends.now c.deref.result.now
        (map (λ x. 1) c.args.run.now) (c.in_ok-sums_in_visits.ensures.sums n l)
        (c.deref.ensures.value ∙ c.in_ok-ones.ensures ∙ ap (λ (xs : List Step). map (λ x. 1) xs) c.steps.ensures)
        (length-map c.args.run.now (λ x. 1));
    in_all_is = same_sum n _ (length c.args.run.now) c.args.visits.now c.args.ends.now c.deref-2.result.now
        (own_in c.args.config.now c.args.run.now) (c.in_ok-sums_in_visits-2.ensures.sums n l)
        (c.deref-2.ensures.value ∙ c.in_ok-own.ensures.exact) (length_own c.args.config.now c.args.run.now);
    own_is = c.in_ok-accounts_of.ensures.own.by_key n l;
    floor_is = c.in_ok-accounts_of.ensures.floor.by_key n l;
  };
  own_without = c.in_ok-accounts_of.ensures.own.without;
  floor_without = c.in_ok-accounts_of.ensures.floor.without;
}

pub accounts_of-requires-clause-pairs : goal.accounts_of-requires-clause-pairs
accounts_of-requires-clause-pairs g c =
    ap length c.requires.keys ∙ (length-map c.args.innermost.now _ ∙ c.requires.many_innermost)

pub accounts_of-requires-clause-stretches : goal.accounts_of-requires-clause-stretches
accounts_of-requires-clause-stretches g c = c.requires.many_innermost

pub accounts_of-requires-clause-few : goal.accounts_of-requires-clause-few
accounts_of-requires-clause-few g c = few_steps _ c.requires.few

pub sums_in_visits-requires-clause-order : goal.sums_in_visits-requires-clause-order
sums_in_visits-requires-clause-order g c = c.requires.order

pub sums_in_visits-requires-clause-loops : goal.sums_in_visits-requires-clause-loops
sums_in_visits-requires-clause-loops g c = c.requires.loops

pub sums_in_visits-requires-2-clause-order : goal.sums_in_visits-requires-2-clause-order
sums_in_visits-requires-2-clause-order g c = c.requires.order

pub sums_in_visits-requires-2-clause-loops : goal.sums_in_visits-requires-2-clause-loops
sums_in_visits-requires-2-clause-loops g c = c.requires.loops

pub sums_in_visits-requires-2-clause-many_ends : goal.sums_in_visits-requires-2-clause-many_ends
sums_in_visits-requires-2-clause-many_ends g c = c.requires.many_ends

pub sums_in_visits-requires-clause-many_ends : goal.sums_in_visits-requires-clause-many_ends
sums_in_visits-requires-clause-many_ends = grind (arith, common_steps)
