-- The links before a place end before the cycle, and the link at it doesn't.
use Rattle.std.proofs.Common.{◌≡◌, arith, true}
use Rattle.std.specs.Prelude.{nat_lt}
use Rattle.std.proofs.lemmas.Bool.{lt-ltb}
use Rattle.std.proofs.lemmas.List.Elements.{All-more}
use Rattle.tomex_frames.proofs.AtCycle.{found_here, found_past}
use Rattle.tomex_frames.proofs.on_path.place_of.Goals as goal

pub loop-place-preserved : goal.loop-place-preserved
loop-place-preserved c = record {
  few = omega (arith, c.loop-place-test.true);
  passed = All-more (λ l. nat_lt l.to c.args.cycle ≡ true) c.args.path.now c.loop-place.place _
      (omega (arith, c.loop-place-test.true)) c.loop-place.invariant.passed (lt-ltb _ _ c.if-path-place.true);
}

pub returns-else-path-place-clause-here : goal.returns-else-path-place-clause-here
returns-else-path-place-clause-here c =
    found_here c.args.cycle c.args.path.now c.loop-place.place _ c.loop-place.invariant.passed c.if-path-place.false

pub returns-after-loop-place-clause-here : goal.returns-after-loop-place-clause-here
returns-after-loop-place-clause-here c =
    found_past c.args.cycle c.args.path.now c.loop-place.place c.loop-place.invariant.passed
    (omega (arith, c.loop-place-test.false))
