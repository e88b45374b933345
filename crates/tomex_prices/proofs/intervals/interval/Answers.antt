-- A row's span says at which prices it stays.
use Rattle.std.proofs.Common.{◌≡◌, ◌∙◌, ap, sym}
use Rattle.tomex_prices.specs.declared.intervals.PriceRange.{PriceRange}
use Rattle.tomex_prices.specs.Interval.{interval, is_within, range_of}
use Rattle.tomex_prices.proofs.Within.{exactly_within, on_front_within}
use Rattle.tomex_prices.proofs.intervals.interval.Goals as goal

pub returns-clause-ends : goal.returns-clause-ends
returns-clause-ends c = c.range_of.ensures ∙ ap range_of c.span.ensures.span

pub returns-clause-exact : goal.returns-clause-exact
returns-clause-exact c =
    let ends : c.range_of.result ≡ interval c.args.row c.args.rows.now = returns-clause-ends c in
    λ now q here few. exactly_within now q c.args.rows.now c.args.row few here
    ∙ ap (λ (range : PriceRange). is_within range q) (sym ends)

pub returns-clause-front : goal.returns-clause-front
returns-clause-front c =
    let ends : c.range_of.result ≡ interval c.args.row c.args.rows.now = returns-clause-ends c in
    λ now q numbered one here few. on_front_within now q c.args.rows.now c.args.row few numbered one here
    ∙ ap (λ (range : PriceRange). is_within range q) (sym ends)
