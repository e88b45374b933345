-- A sum of thirteen products, in another order.
use Rattle.std.proofs.Common.{arith}
use Rattle.tomex_page_tables.proofs.laws.costs_of_parts_add_up.Goals as goal

pub returns : goal.returns
returns c = λ prices config. omega arith
