-- A step that is no access is passed by; after the last one under way the list is complete.
use Rattle.std.proofs.lemmas.Grind.{common_steps}
use Rattle.std.proofs.Common.{arith, reverse, take}
use Rattle.tomex_states.proofs.UnderWay.{all_listed, passed_by}
use Rattle.tomex_states.proofs.shift.list_under_way.Goals as goal

pub loop-place-preserved : goal.loop-place-preserved
loop-place-preserved g c = (
  c.loop-place.invariant.0,
  passed_by c.args.from _ c.args.facts.now c.loop-place.place _ c.loop-place.accesses.items _ c.loop-place-test.true
      c.loop-place.auto.place c.in_default.is c.loop-place.invariant.1,
)

pub returns-then-number-count : goal.returns-then-number-count
returns-then-number-count g c =
    all_listed c.args.from c.loop-place.number c.args.window.now.finishes
    (reverse (take c.loop-place.place c.args.facts.now)) c.loop-place.accesses.items _ (omega arith)
    (λ i l m. c.count_under_way-count.ensures.past i (omega arith) m) c.loop-place.invariant.1

pub loop-place-preserved-in-Some : goal.loop-place-preserved-in-Some
loop-place-preserved-in-Some = grind (arith, common_steps)

pub loop-place-init : goal.loop-place-init
loop-place-init = grind (arith, common_steps)
