-- The row's configuration is one of the study's, and its interval that of the study's rows.
use Rattle.std.proofs.Common.{◌≡◌, ◌∙◌, ap, arith, sym}
use Rattle.tomex_prices.specs.declared.intervals.PriceRange.{PriceRange}
use Rattle.tomex_prices.specs.Interval.{is_within}
use Rattle.tomex_prices.specs.Studies.{interval_of}
use Rattle.tomex_prices.proofs.AllRows.{front_row_within}
use Rattle.tomex_prices.proofs.RepricedStudy.{interval_is, on_study_within}
use Rattle.tomex_prices.proofs.intervals.interval_of.Goals as goal

pub bounds-rows-row : goal.bounds-rows-row
bounds-rows-row g c =
    let low = front_row_within c.args.study.now c.args.row c.keeps_limits.ensures c.requires.front in
    rw c.rows.ensures.value low

pub offset_bounds-rows-row : goal.offset_bounds-rows-row
offset_bounds-rows-row g c =
    let low = front_row_within c.args.study.now c.args.row c.keeps_limits.ensures c.requires.front in
    let few = c.keeps_limits.ensures.few_rows in
    omega (arith, low, few)

pub returns-clause-ends : goal.returns-clause-ends
returns-clause-ends g c =
    let low = front_row_within c.args.study.now c.args.row c.keeps_limits.ensures c.requires.front in
    interval_is c.args.study.now c.args.price c.args.row low c.interval.ensures.ends
    c.prices-prices.ensures.value c.with_price_apart-apart.ensures.parts c.index-rows-row.is c.rows.ensures.value
    c.requires.rows

pub returns-clause-exact : goal.returns-clause-exact
returns-clause-exact g c =
    let ends : c.interval.result ≡ interval_of c.args.study.now c.args.price c.args.row = returns-clause-ends g c in
    λ q few. on_study_within c.args.study.now c.args.price q c.args.row c.keeps_limits.ensures few c.requires.front
    ∙ ap (λ (range : PriceRange). is_within range q) (sym ends)
