-- The loop that a place has is around, or it isn't.
use Rattle.std.proofs.Common.{◌+◌, ◌<◌, ℕ, Option, arith, drop, subst}
use Rattle.std.specs.Prelude.{IfSome}
use Rattle.tomex_loops.proofs.Given.{given_inside, given_outside}
use Rattle.tomex_loops.proofs.finding.loop_given.Goals as goal

pub returns-in-Some-stand-clause-given : goal.returns-in-Some-stand-clause-given
returns-in-Some-stand-clause-given c = λ places known.
    let low : c.in-Some.around < c.args.place =
    subst (λ (o : Option ℕ). IfSome o (λ h. h < c.args.place)) c.in-Some.is c.requires.below in
    given_inside (λ (k : ℕ). c.args.base + k) (drop c.args.base places) c.args.head c.args.place c.in-Some.around
    c.args.has c.in-Some-stand.field-0 c.in-Some.is c.if-place-head.false
    (c.in-Some-stand.ensures places (known c.in-Some.around (omega (arith, c.requires.place, low))))

pub returns-in-None-stand-clause-given : goal.returns-in-None-stand-clause-given
returns-in-None-stand-clause-given c = λ places known.
    let low : c.in-Some.around < c.args.place =
    subst (λ (o : Option ℕ). IfSome o (λ h. h < c.args.place)) c.in-Some.is c.requires.below in
    given_outside (λ (k : ℕ). c.args.base + k) (drop c.args.base places) c.args.head c.args.place c.in-Some.around
    c.args.has c.in-Some.is c.if-place-head.false
    (c.in-None-stand.ensures places (known c.in-Some.around (omega (arith, c.requires.place, low))))
