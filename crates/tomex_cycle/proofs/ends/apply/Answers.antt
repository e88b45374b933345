use Rattle.tomex_cycle.proofs.Truth.{taken}
use Rattle.tomex_cycle.proofs.EndsLoops.{all_applied, ended_below, first_applied, one_applied}
use Rattle.tomex_cycle.proofs.ends.apply.Goals as goal

pub members-init : goal.members-init
members-init c = λ low count. first_applied c.args.picked c.args.pools.now c.args.registers.now count

pub members-preserved-then-place-lt96 : goal.members-preserved-then-place-lt96
members-preserved-then-place-lt96 c = λ low count. one_applied c.end_at.new.pools c.end_at.new.registers low
    (c.members.invariant low count) (taken c.lowest-place.ensures.below c.lowest-place.ensures.member
    c.lowest-place.ensures.least c.without_lowest-rest.ensures.others)
    (c.end_at.ensures.stations, c.end_at.ensures.registers)

pub returns-clause-stations : goal.returns-clause-stations
returns-clause-stations c = λ low count. ended_below
    (all_applied low (c.members.invariant low count) c.members-test.false).0

pub returns-clause-registers : goal.returns-clause-registers
returns-clause-registers c = λ count low. (all_applied low (c.members.invariant low count) c.members-test.false).1
