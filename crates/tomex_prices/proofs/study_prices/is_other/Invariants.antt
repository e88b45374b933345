-- The remaining configurations.
use Rattle.std.proofs.Common.{◌≡◌, ◌==◌, not, drop}
use Rattle.std.specs.List.{list_any}
use Rattle.tomex_prices.specs.Price.{payments}
use Rattle.tomex_prices.proofs.study_prices.is_other.Given as goal

abbrev pub invariant-loop-config : goal.invariant-loop-config
invariant-loop-config l =
    list_any (λ config. not (payments l.price config == l.usual)) (drop l.config-index l.rows)
    ≡ list_any (λ config. not (payments l.price config == l.usual)) l.rows
