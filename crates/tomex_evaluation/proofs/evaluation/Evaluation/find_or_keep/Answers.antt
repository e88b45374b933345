-- Closed at once: searching by rules first takes long.
use Rattle.std.proofs.Common.{arith, inl, inr, length}
use Rattle.std.proofs.lemmas.Bool.{cases_lt}
use Rattle.std.proofs.lemmas.Grind.{common_steps}
use Rattle.tomex_evaluation.proofs.evaluation.Evaluation.find_or_keep.Goals as goal

pub keep-requires-clause-state : goal.keep-requires-clause-state
keep-requires-clause-state = grind (arith, common_steps)

pub find-requires-clause-state : goal.find-requires-clause-state
find-requires-clause-state = grind (arith, common_steps)

pub returns-clause-number : goal.returns-clause-number
returns-clause-number g c =
    let kept = c.args.self.now.known.states.items in
    inr (record {
      more = c.in_ok-keep.ensures;
      room = elim (cases_lt (length kept) 32) [
        | inl few ↦ few
        | inr full ↦ absurd (cc (c.is_full.ensures.1 full, c.if-is_full.false))
      ];
      number = grind (arith);
      kept = grind (arith);
    })
