use Rattle.std.proofs.Common.{rules}
use Rattle.tomex_values.proofs.table.known_keys.Goals as goal

pub returns-then-has_other_key : goal.returns-then-has_other_key
unfolding Rattle.tomex_values.specs.Table.known_keys
returns-then-has_other_key c = search rules fits 100
