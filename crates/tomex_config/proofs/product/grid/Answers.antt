use Rattle.std.proofs.Common.{rules}
use Rattle.tomex_config.proofs.product.grid.Goals as goal

pub returns-then-not-is_in_range-clause-exact : goal.returns-then-not-is_in_range-clause-exact
unfolding Rattle.tomex_config.specs.Grid.grid_of
returns-then-not-is_in_range-clause-exact g c = search rules fits 100
