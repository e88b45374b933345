use Rattle.std.proofs.Common.{rules}
use Rattle.tomex_config.proofs.axis.Axes.is_in_range.Goals as goal

pub returns-then-are_options_in_range : goal.returns-then-are_options_in_range
unfolding Rattle.tomex_config.specs.Grid.in_range
returns-then-are_options_in_range g c = search rules fits 100
