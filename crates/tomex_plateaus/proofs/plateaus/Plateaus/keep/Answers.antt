-- One more plateau, or another one, in the program's list.
use Rattle.std.proofs.Common.{◌<◌, arith, length}
use Rattle.tomex_plateaus.proofs.Keeping.{another_one, one_more}
use Rattle.tomex_plateaus.proofs.plateaus.Plateaus.keep.Goals as goal

pub invariant_of-self-then-len-lt-MOST : goal.invariant_of-self-then-len-lt-MOST
invariant_of-self-then-len-lt-MOST g c =
    let low : length c.self.inside.found.items < 8192 = omega arith in
    one_more _ _ _ _ c.args.plateau c.self.invariant (rw (← c.self.view_is) at c.requires) low
    c.in_ok-push.ensures.items

pub returns-then-len-lt-MOST-clause-kept : goal.returns-then-len-lt-MOST-clause-kept
returns-then-len-lt-MOST-clause-kept g c =
    let low : length c.self.inside.found.items < 8192 = omega arith in
    one_more _ _ _ _ c.args.plateau c.self.invariant (rw (← c.self.view_is) at c.requires) low
    c.in_ok-push.ensures.items

pub invariant_of-self-2 : goal.invariant_of-self-2
invariant_of-self-2 g c = another_one _ _ _ c.args.plateau c.self.invariant (rw (← c.self.view_is) at c.requires)

pub returns-clause-kept : goal.returns-clause-kept
returns-clause-kept g c = another_one _ _ _ c.args.plateau c.self.invariant (rw (← c.self.view_is) at c.requires)
