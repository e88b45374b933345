use Rattle.std.proofs.Common.{rules}
use Rattle.tomex_values.proofs.numbers.number_at.Goals as goal

pub returns-in-None-clause-within : goal.returns-in-None-clause-within
returns-in-None-clause-within c = search rules fits 100

pub returns-in-None-clause-read : goal.returns-in-None-clause-read
unfolding Rattle.tomex_values.specs.Numbers.number_at
returns-in-None-clause-read c = search rules fits 100
