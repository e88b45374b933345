-- An option's price is added if no row before has the option.
use Rattle.std.proofs.Common.{◌≡◌, take}
use Rattle.tomex_prices.proofs.FirstOptions.{choices_at_first, choices_at_last, choices_new, choices_seen, has}
use Rattle.tomex_prices.proofs.study_prices.push_choices.Goals as goal
use Rattle.tomex_prices.proofs.study_prices.push_choices.Goals.{then-not-has_option+in_ok-push, else-not-has_option}

pub loop-place-init : goal.loop-place-init
loop-place-init g c = choices_at_first c.args.prices.now.items c.args.unit c.args.rows.now

pub loop-place-preserved : goal.loop-place-preserved
loop-place-preserved g c =
    let unit = c.args.unit in
    let rows = c.args.rows.now in
    let k = c.loop-place.place in
    let config = c.index-rows-place.result in
    let option = c.option-option.result in
    let found : c.has_option.result ≡ has (take k rows) unit c.option-option.result = c.has_option.ensures in
    elim c.if-not-has_option.branch [
      | then-not-has_option+in_ok-push w ↦
          rw w.prices-is (choices_new unit rows k config option c.has_option.result _ _
          c.loop-place-test.true c.index-rows-place.is c.option-option.ensures.chosen found c.loop-place.invariant
          w.if-not-has_option.true _ w.in_ok-push.ensures.items)
      | else-not-has_option w ↦
          rw w.prices-is (choices_seen unit rows k config option c.has_option.result _ _
          c.loop-place-test.true c.index-rows-place.is c.option-option.ensures.chosen found c.loop-place.invariant
          w.if-not-has_option.false)
    ]

pub returns : goal.returns
returns g c =
    choices_at_last c.args.unit c.args.rows.now c.loop-place.place _ _ c.loop-place-test.false c.loop-place.invariant
