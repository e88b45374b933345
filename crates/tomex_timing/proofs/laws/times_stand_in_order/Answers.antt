-- Each time passes a test that requires a later cycle.
use Rattle.tomex_timing.proofs.Orders.{address_rises, reach, result_later, start_later}
use Rattle.tomex_timing.proofs.laws.times_stand_in_order.Goals as goal

pub returns : goal.returns
returns c = record { reach = reach; start = start_later; result = result_later; address = address_rises }
