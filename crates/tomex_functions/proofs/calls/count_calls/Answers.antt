-- One step more, which may be a call.
use Rattle.std.proofs.Common.{arith}
use Rattle.std.proofs.lemmas.Grind.{common_steps}
use Rattle.tomex_functions.proofs.CallTurns.{all_fit, count_fits, turn_of_all, turn_of_key, turn_same}
use Rattle.tomex_functions.proofs.calls.count_calls.Goals as goal
use Rattle.tomex_functions.proofs.calls.count_calls.Goals.{then-is_call+in_ok-count, else-is_call}

pub count-requires-clause-fits : goal.count-requires-clause-fits
count-requires-clause-fits g c =
    count_fits c.requires.functions.0 c.args.steps.now c.loop-index.index _ c.key_of.result c.requires.few
    ((c.loop-index.invariant c.requires.functions.0 c.requires.functions.1).by_key c.key_of.result)

pub count-requires-clause-all : goal.count-requires-clause-all
count-requires-clause-all g c =
    all_fit c.requires.functions.0 c.args.steps.now c.loop-index.index _ c.requires.few
    (c.loop-index.invariant c.requires.functions.0 c.requires.functions.1).all

pub loop-index-preserved : goal.loop-index-preserved
loop-index-preserved g c = λ symbols are.
    let before = c.loop-index.invariant symbols are in
    elim c.if-is_call.branch [
      | then-is_call+in_ok-count w ↦ record {
        by_key = λ k. turn_of_key symbols c.args.steps.now c.args.functions.now c.loop-index.index c.is_call.result are
            c.loop-index-test.true (λ d. c.is_call.ensures symbols d are) k w.key_of.result _ _ w.key_of.ensures
            w.if-is_call.true (before.by_key k) (rw w.calls-is (w.in_ok-count.ensures.by_key k));
        all = turn_of_all symbols c.args.steps.now c.args.functions.now c.loop-index.index c.is_call.result are
            c.loop-index-test.true (λ d. c.is_call.ensures symbols d are) _ _ w.if-is_call.true before.all
            (rw w.calls-is w.in_ok-count.ensures.all);
      }
      | else-is_call w ↦
          let same = turn_same symbols c.args.steps.now c.args.functions.now c.loop-index.index c.is_call.result are
          c.loop-index-test.true (λ d. c.is_call.ensures symbols d are) w.if-is_call.false in
          rw (w.calls-is, same) (record { by_key = before.by_key; all = before.all })
    ]

pub is_call-requires-clause-pairs : goal.is_call-requires-clause-pairs
is_call-requires-clause-pairs = grind (arith, common_steps)

pub is_call-requires-clause-place : goal.is_call-requires-clause-place
is_call-requires-clause-place = grind (arith, common_steps)
