-- Each turn takes a step.
use Rattle.std.proofs.Common.{◌≡◌, None, true, false, arith, get_or, refl}
use Rattle.std.specs.Prelude.{is_none}
use Rattle.tomex_loop_sums.proofs.Outside.{without_more}
use Rattle.tomex_loop_sums.proofs.spent.steps_without.Goals as goal
use Rattle.tomex_loop_sums.proofs.spent.steps_without.Goals.{then-is_none, else-is_none}

pub loop-key-preserved : goal.loop-key-preserved
loop-key-preserved c =
    let more = without_more c.args.keys.now c.loop-key.key-index None c.loop-key-test.true in
    elim c.if-is_none.branch [
      | then-is_none w ↦
          let yes : is_none (get_or c.args.keys.now c.loop-key.key-index None) ≡ true =
          rw (c.is_none.ensures, w.if-is_none.true) refl in
          let one = rw yes at more in
          record {
            most = omega (arith, w.count-is, c.loop-key.invariant.most);
            is = omega (arith, w.count-is, one, c.loop-key.invariant.is);
          }
      | else-is_none w ↦
          let no : is_none (get_or c.args.keys.now c.loop-key.key-index None) ≡ false =
          rw (c.is_none.ensures, w.if-is_none.false) refl in
          let none = rw no at more in
          record {
            most = omega (arith, w.count-is, c.loop-key.invariant.most);
            is = omega (arith, w.count-is, none, c.loop-key.invariant.is);
          }
    ]
