use Rattle.std.proofs.Common.{rules, arith}
use Rattle.tomex_config.proofs.price.cost.Goals as goal

pub returns-clause-cost : goal.returns-clause-cost
returns-clause-cost c = search rules fits 100

pub overflow_add-result-2 : goal.overflow_add-result-2
overflow_add-result-2 = grind arith

pub overflow_add-result-3 : goal.overflow_add-result-3
overflow_add-result-3 = grind arith

pub returns-clause-bound : goal.returns-clause-bound
returns-clause-bound = grind arith
