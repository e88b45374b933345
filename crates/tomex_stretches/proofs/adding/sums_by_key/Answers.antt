-- Each turn adds the number of a step to the sum of its key.
use Rattle.std.proofs.lemmas.Grind.{common_steps}
use Rattle.std.proofs.Common.{ℕ, ◌<◌, ◌≡◌, ◌∙◌, true, arith, ap, Option, Some, None, get_or}
use Rattle.std.specs.Prelude.{is_none}
use Rattle.tomex_stretches.specs.Cycles.{is_key}
use Rattle.tomex_stretches.proofs.Cycles.{same_self}
use Rattle.tomex_stretches.proofs.Keyed.{fits_at, where_fits, where_more}
use Rattle.tomex_stretches.proofs.adding.sums_by_key.Goals as goal

pub add-requires-clause-few : goal.add-requires-clause-few
add-requires-clause-few g c =
    let key = get_or c.args.keys.now c.loop-k.k None in
    fits_at (get_or c.args.keys.now c.loop-k.k None) c.loop-k.sums.by_key.items c.loop-k.sums.without
    (get_or c.args.numbers.now c.loop-k.k 0) _
    (λ m is.
    let small : m < c.args.count = rw is at (c.requires.keys c.loop-k.k None c.loop-k-test.true) in
    let here : is_key m (get_or c.args.keys.now c.loop-k.k None) ≡ true = ap (is_key m) is ∙ same_self (Some m) in
    let fits = where_fits (is_key m) c.args.keys.now c.args.numbers.now c.loop-k.k None c.requires.pairs
    c.loop-k-test.true here in
    omega (arith, fits, c.loop-k.invariant.by_key m small, c.requires.few))
    (λ is.
    let here : is_none (get_or c.args.keys.now c.loop-k.k None) ≡ true = ap (λ (o : Option ℕ). is_none o) is in
    let fits = where_fits is_none c.args.keys.now c.args.numbers.now c.loop-k.k None c.requires.pairs
    c.loop-k-test.true here in
    omega (arith, fits, c.loop-k.invariant.without, c.requires.few))

pub loop-k-preserved : goal.loop-k-preserved
loop-k-preserved g c = record {
  count = c.add.ensures.count ∙ c.loop-k.invariant.count;
  by_key = λ n l.
      let more = where_more (is_key n) c.args.keys.now c.args.numbers.now c.loop-k.k None c.requires.pairs
      c.loop-k-test.true in
      omega (arith, more, c.add.ensures.by_key n, c.loop-k.invariant.by_key n l);
  without =
      let more = where_more is_none c.args.keys.now c.args.numbers.now c.loop-k.k None c.requires.pairs
      c.loop-k-test.true in
      omega (arith, more, c.add.ensures.without, c.loop-k.invariant.without);
}

pub returns-clause-by_key : goal.returns-clause-by_key
returns-clause-by_key = grind (arith, common_steps)

pub loop-k-init : goal.loop-k-init
loop-k-init = grind (arith, common_steps)

pub returns-clause-without : goal.returns-clause-without
returns-clause-without = grind (arith, common_steps)
