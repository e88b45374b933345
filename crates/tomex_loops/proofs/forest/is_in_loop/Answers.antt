-- The search goes on to a loop around, and ends at the head or before it.
use Rattle.std.proofs.Common.{◌∙◌, ◌<◌, ℕ, Option, ap, arith, get_or, length, subst, sym}
use Rattle.std.specs.Prelude.{IfSome}
use Rattle.tomex_loops.specs.Loops.{is_in_loop}
use Rattle.tomex_loops.specs.Ways.{loop_in}
use Rattle.tomex_loops.proofs.Jumps.{in_last, next_lower, search_on}
use Rattle.tomex_loops.proofs.forest.is_in_loop.Goals as goal

pub loop-inner-smaller : goal.loop-inner-smaller
loop-inner-smaller c =
    let low : c.in-Some.around < c.loop-inner.inner =
    subst (λ (o : Option ℕ). IfSome o (λ h. h < c.loop-inner.inner)) c.in-Some.is
    (c.requires.lower c.loop-inner.inner) in
    let inside : c.loop-inner.inner < length c.args.jumps.now = omega
    (arith, c.loop-inner.invariant.within, c.requires.many) in
    let short = c.requires.jumps.less c.loop-inner.inner c.in-Some.around inside c.in-Some.is in
    subst (λ (y : ℕ). y < c.loop-inner.inner) (sym c.next-inner.ensures)
    (next_lower (get_or c.args.jumps.now c.loop-inner.inner 0) c.in-Some.around c.args.head c.loop-inner.inner short
    low)

pub loop-inner-preserved : goal.loop-inner-preserved
loop-inner-preserved c =
    let low : c.in-Some.around < c.loop-inner.inner =
    subst (λ (o : Option ℕ). IfSome o (λ h. h < c.loop-inner.inner)) c.in-Some.is
    (c.requires.lower c.loop-inner.inner) in
    let inside : c.loop-inner.inner < length c.args.jumps.now = omega
    (arith, c.loop-inner.invariant.within, c.requires.many) in
    let short = c.requires.jumps.less c.loop-inner.inner c.in-Some.around inside c.in-Some.is in
    let down : c.next-inner.result < c.loop-inner.inner =
    subst (λ (y : ℕ). y < c.loop-inner.inner) (sym c.next-inner.ensures)
    (next_lower (get_or c.args.jumps.now c.loop-inner.inner 0) c.in-Some.around c.args.head c.loop-inner.inner short
    low) in
    record {
      within = omega (arith, down, c.loop-inner.invariant.within);
      same = ap (λ (y : ℕ). is_in_loop (loop_in c.args.loops.now) c.args.head y) c.next-inner.ensures
          ∙ sym (search_on c.args.loops.now c.args.jumps.now c.args.head c.loop-inner.inner c.in-Some.around
          c.requires.lower
          c.requires.jumps inside c.in-Some.is c.loop-inner-test.true)
          ∙ c.loop-inner.invariant.same;
    }

pub returns : goal.returns
returns c = sym (in_last (loop_in c.args.loops.now) c.requires.lower c.loop-inner.inner c.args.head
    c.loop-inner-test.false)
    ∙ c.loop-inner.invariant.same
