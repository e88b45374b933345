use Rattle.tomex_cycle.proofs.Words.{IfSome_then}
use Rattle.tomex_cycle.proofs.Cycles.{start_happens}
use Rattle.tomex_cycle.proofs.StartsDone.{start_made, start_none}
use Rattle.tomex_cycle.proofs.phases.start.Goals as goal

pub returns-then-starting-eq0-clause-starts : goal.returns-then-starting-eq0-clause-starts
returns-then-starting-eq0-clause-starts g c = start_none c.args.memory.now c.choose_starting-starting.ensures.starting
    c.choose_starting-starting.ensures.busy c.if-starting-eq0.true

pub returns-clause-starts : goal.returns-clause-starts
returns-clause-starts g c = start_made c.args.config.now c.args.cycle c.args.pools.now c.begin-fault.new.pools
    c.args.memory.now c.write.new.memory c.begin-fault.result c.choose_starting-starting.result
    c.choose_starting-starting.ensures.starting c.choose_starting-starting.ensures.busy c.begin-fault.ensures.begins
    c.begin-fault.ensures.good c.write.ensures

pub returns-clause-any : goal.returns-clause-any
returns-clause-any g c = λ some i h t e up shown. start_happens up shown c.choose_starting-starting.ensures.busy
    c.choose_starting-starting.ensures.starting e c.choose_starting-starting.type_inv c.if-starting-eq0.false

pub returns-clause-fault : goal.returns-clause-fault
returns-clause-fault g c = IfSome_then c.begin-fault.result c.begin-fault.ensures.fault (λ f is. (is.0, is.2))
