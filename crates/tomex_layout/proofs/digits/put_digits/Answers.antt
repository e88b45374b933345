-- A digit more, and the first one.
use Rattle.std.proofs.Common.{◌∙◌, arith}
use Rattle.std.proofs.lemmas.List.{length-set}
use Rattle.std.specs.Fmt.{decimal}
use Rattle.tomex_layout.proofs.LastDigits.{digit_before, first_digit, no_digits, room}
use Rattle.tomex_layout.proofs.digits.put_digits.Goals as goal

pub loop-rest-init : goal.loop-rest-init
loop-rest-init c = record {
  count = c.told-digits;
  within = omega arith;
  digits = no_digits (decimal c.args.number) c.args.digits.now 20 (omega (arith, c.told-digits));
}

pub bounds-digits-from : goal.bounds-digits-from
bounds-digits-from c = c.loop-rest.invariant.within

pub overflow_sub-from : goal.overflow_sub-from
overflow_sub-from c =
    room c.args.number c.loop-rest.rest c.loop-rest.from c.loop-rest.digits c.ranges.number.fits
    c.loop-rest-test.true c.loop-rest.auto.rest-fits.fits c.loop-rest.invariant.count c.loop-rest.invariant.within
    c.loop-rest.invariant.digits

pub loop-rest-preserved : goal.loop-rest-preserved
loop-rest-preserved c =
    let there = room c.args.number c.loop-rest.rest c.loop-rest.from c.loop-rest.digits c.ranges.number.fits
    c.loop-rest-test.true c.loop-rest.auto.rest-fits.fits c.loop-rest.invariant.count c.loop-rest.invariant.within
    c.loop-rest.invariant.digits in
    record {
      count = length-set c.loop-rest.digits c.loop-rest.from _ ∙ c.loop-rest.invariant.count;
      within = let low = c.loop-rest.invariant.within in omega (arith, low);
      digits = digit_before c.loop-rest.rest c.loop-rest.from c.loop-rest.digits _ there c.loop-rest-test.true
          c.loop-rest.auto.rest-fits.fits
          (let low = c.loop-rest.invariant.within in let e = c.loop-rest.invariant.count in omega (arith, low, e))
          c.loop-rest.invariant.digits;
    }

pub bounds-digits-from-2 : goal.bounds-digits-from-2
bounds-digits-from-2 c = c.loop-rest.invariant.within

pub returns-clause-inside : goal.returns-clause-inside
returns-clause-inside c = c.loop-rest.invariant.within

pub returns-clause-digits : goal.returns-clause-digits
returns-clause-digits c =
    first_digit c.loop-rest.rest c.loop-rest.from c.loop-rest.digits _ c.loop-rest-test.false
    (let low = c.loop-rest.invariant.within in let e = c.loop-rest.invariant.count in omega (arith, low, e))
    c.loop-rest.invariant.digits
