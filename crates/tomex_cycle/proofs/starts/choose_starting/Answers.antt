use Rattle.tomex_cycle.proofs.Startable.{are_served, all_of, are_starting, none_starts, single_of}
use Rattle.tomex_timing.proofs.Limits.{units_low}
use Rattle.tomex_rvdec.specs.declared.pool.UnitId.TheVariants as units
use Rattle.tomex_cycle.proofs.starts.choose_starting.Goals as goal

pub returns-then-waiting-eq0-clause-starting : goal.returns-then-waiting-eq0-clause-starting
returns-then-waiting-eq0-clause-starting c = none_starts c.args.config.now c.args.pools.now c.args.cycle
    c.waiters-waiting.result c.waiters-waiting.ensures.busy c.waiters-waiting.ensures.set c.if-waiting-eq0.true

-- there is a unit for the one that waits
pub returns-then-is_single-clause-starting : goal.returns-then-is_single-clause-starting
returns-then-is_single-clause-starting c =
    let slots = c.args.pools.now.slots in
    let config = c.args.config.now in
    let numbers = c.args.pools.now.issue_numbers in
    let waiting = c.waiters-waiting.result in
    let single = c.is_single.ensures.0 c.if-is_single.true in
    let all = c.waiters-waiting.ensures.set in
    let lawful = c.keeps_limits.ensures in
    are_starting c.union_of_five.result
    (are_served config c.args.pools.now c.args.cycle units.Alu _ c.startable-alu.result
    (c.startable-alu.ensures.startable c.args.cycle) (single_of units.Alu slots waiting c.startable-alu.result _ numbers
    single all (units_low config units.Alu lawful)
    (all_of units.Alu slots c.startable-alu.result c.startable-alu.ensures.wait)))
    (are_served config c.args.pools.now c.args.cycle units.Mul _ c.startable-mul.result
    (c.startable-mul.ensures.startable c.args.cycle) (single_of units.Mul slots waiting c.startable-mul.result _ numbers
    single all (units_low config units.Mul lawful)
    (all_of units.Mul slots c.startable-mul.result c.startable-mul.ensures.wait)))
    (are_served config c.args.pools.now c.args.cycle units.Div _ c.startable-div.result
    (c.startable-div.ensures.startable c.args.cycle) (single_of units.Div slots waiting c.startable-div.result _ numbers
    single all (units_low config units.Div lawful)
    (all_of units.Div slots c.startable-div.result c.startable-div.ensures.wait)))
    (are_served config c.args.pools.now c.args.cycle units.Mem _ c.accessible-mem.result
    c.accessible-mem.ensures.startable (single_of units.Mem slots waiting c.accessible-mem.result _ numbers single all
    (units_low config units.Mem lawful) c.accessible-mem.ensures.wait))
    (are_served config c.args.pools.now c.args.cycle units.Bru _ c.startable-bru.result
    (c.startable-bru.ensures.startable c.args.cycle) (single_of units.Bru slots waiting c.startable-bru.result _ numbers
    single all (units_low config units.Bru lawful)
    (all_of units.Bru slots c.startable-bru.result c.startable-bru.ensures.wait))) c.union_of_five.ensures

pub returns-clause-starting : goal.returns-clause-starting
returns-clause-starting c =
    let pools = c.args.pools.now in
    let config = c.args.config.now in
    let numbers = c.issue_numbers-issue_numbers.ensures in
    are_starting c.union_of_five-2.result (are_served config pools c.args.cycle units.Alu _ _
    (c.startable-alu.ensures.startable c.args.cycle) (rw (numbers, c.units.ensures.count) at c.pick.ensures.picked))
    (are_served config pools c.args.cycle units.Mul _ _ (c.startable-mul.ensures.startable c.args.cycle)
    (rw (numbers, c.units-2.ensures.count) at c.pick-2.ensures.picked))
    (are_served config pools c.args.cycle units.Div _ _ (c.startable-div.ensures.startable c.args.cycle)
    (rw (numbers, c.units-3.ensures.count) at c.pick-3.ensures.picked))
    (are_served config pools c.args.cycle units.Mem _ _ c.accessible-mem.ensures.startable
    (rw (numbers, c.units-4.ensures.count) at c.pick-4.ensures.picked))
    (are_served config pools c.args.cycle units.Bru _ _ (c.startable-bru.ensures.startable c.args.cycle)
    (rw (numbers, c.units-5.ensures.count) at c.pick-5.ensures.picked)) c.union_of_five-2.ensures
