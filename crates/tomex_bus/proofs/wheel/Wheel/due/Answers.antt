use Rattle.std.proofs.Common.{refl}
use Rattle.tomex_bus.proofs.Turning.{due_first, emptied_ring, given, none_given}
use Rattle.tomex_bus.proofs.wheel.Wheel.due.Goals as goal

pub returns-then-due-ne0-clause-due : goal.returns-then-due-ne0-clause-due
returns-then-due-ne0-clause-due c =
    due_first c.args.self.now c.self.inside.sets c.self.inside.filled c.self.inside.head _ c.self.view_is
    c.self.invariant refl

pub returns-then-due-ne0-clause-rest : goal.returns-then-due-ne0-clause-rest
returns-then-due-ne0-clause-rest c =
    given c.args.self.now c.self.inside.sets c.self.inside.filled c.without-self-inside.result c.self.inside.head
    c.self.view_is c.self.invariant
    (emptied_ring c.self.inside.sets c.self.inside.filled c.self.inside.head c.without-self-inside.result
    c.self.invariant c.without-self-inside.ensures)

pub returns-else-due-ne0-clause-due : goal.returns-else-due-ne0-clause-due
returns-else-due-ne0-clause-due c =
    due_first c.args.self.now c.self.inside.sets c.self.inside.filled c.self.inside.head _ c.self.view_is
    c.self.invariant refl

pub returns-else-due-ne0-clause-rest : goal.returns-else-due-ne0-clause-rest
returns-else-due-ne0-clause-rest c =
    rw c.self.view_is at (none_given c.args.self.now c.self.inside.sets c.self.inside.filled c.self.inside.head
    c.self.view_is c.self.invariant c.if-due-ne0.false)

pub invariant_of-self : goal.invariant_of-self
invariant_of-self c =
    emptied_ring c.self.inside.sets c.self.inside.filled c.self.inside.head c.without-self-inside.result
    c.self.invariant c.without-self-inside.ensures
