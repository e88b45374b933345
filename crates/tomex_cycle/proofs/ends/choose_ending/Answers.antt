use Rattle.tomex_cycle.proofs.Words.{arith}
use Rattle.tomex_cycle.proofs.KnownEnds.{all_due, are_ending, leaves_known, none_unsent, choice_is}
use Rattle.tomex_cycle.proofs.ends.choose_ending.Goals as goal

pub returns-clause-ending : goal.returns-clause-ending
returns-clause-ending c = are_ending c.args.pools.now c.args.buses c.writers-writing.ensures.busy c.requires.timetable
    (choice_is c.args.pools.now c.writers-writing.result c.difference.result c.writers-writing.ensures.set
    c.both-results.ensures (rw c.issue_numbers.ensures at
    c.pick-sending.ensures.picked) c.difference.ensures c.union.ensures)

pub returns-clause-due : goal.returns-clause-due
returns-clause-due c = all_due c.requires.timetable.known c.requires.timetable.turned

pub returns-clause-timetable : goal.returns-clause-timetable
returns-clause-timetable c = leaves_known c.args.pools.now c.args.buses c.send.new.self c.writers-writing.ensures.busy
    c.requires.timetable (choice_is c.args.pools.now c.writers-writing.result c.difference.result
    c.writers-writing.ensures.set c.both-results.ensures (rw c.issue_numbers.ensures at
    c.pick-sending.ensures.picked) c.difference.ensures c.union.ensures)
    (record { wheel = c.send.ensures.wheel; unsent = c.send.ensures.unsent })

pub returns-clause-none_unsent : goal.returns-clause-none_unsent
returns-clause-none_unsent c = none_unsent c.send.new.self (choice_is c.args.pools.now c.writers-writing.result
    c.difference.result c.writers-writing.ensures.set
    c.both-results.ensures (rw c.issue_numbers.ensures at c.pick-sending.ensures.picked) c.difference.ensures
    c.union.ensures) (record { wheel = c.send.ensures.wheel; unsent = c.send.ensures.unsent })
    (c.pick-sending.type_inv, c.send.ensures.fits) (c.pick-sending.ensures.some (omega (arith, c.requires.some)))
