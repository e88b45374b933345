use Rattle.std.proofs.Common.{rules}
use Rattle.tomex_values.proofs.lists.counts_from.Goals as goal

pub returns : goal.returns
returns g c = search rules fits 100
