use Rattle.std.proofs.Common.{rules}
use Rattle.tomex_config.proofs.axis.Axes.are_options_in_range.Goals as goal

pub returns-then-are_options-4 : goal.returns-then-are_options-4
returns-then-are_options-4 g c = search rules fits 100
