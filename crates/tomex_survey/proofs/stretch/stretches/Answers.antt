-- One more worker's stretch.
use Rattle.std.proofs.Common.{All, refl, rules, subst, sym}
use Rattle.std.proofs.lemmas.List.Elements.{All-push}
use Rattle.tomex_survey.specs.Stretches.{IsWithin}
use Rattle.tomex_survey.proofs.Neighbours.{is_within, no_stretch, one_stretch}
use Rattle.tomex_survey.proofs.stretch.stretches.Goals as goal

pub loop-worker-init : goal.loop-worker-init
loop-worker-init g c = record {
  are = no_stretch c.args.rows c.args.workers _ c.in_ok-stretches.ensures.items;
  within = search rules;
}

pub loop-worker-preserved : goal.loop-worker-preserved
loop-worker-preserved g c = record {
  are = one_stretch c.args.rows c.args.workers c.loop-worker.worker _ _ _ c.loop-worker-test.true
      c.in_ok-push.ensures.items refl c.loop-worker.invariant.are;
  within = subst (All (IsWithin c.args.rows)) (sym c.in_ok-push.ensures.items)
      (All-push (IsWithin c.args.rows) _ _ c.loop-worker.invariant.within
      (is_within c.args.rows c.args.workers c.loop-worker.worker c.loop-worker-test.true));
}
