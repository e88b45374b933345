-- The steps shown are those that were asked for, and their signs are few.
use Rattle.std.proofs.Common.{arith, rules}
use Rattle.tomex_run_views.proofs.Pictures.{pictured}
use Rattle.tomex_run_views.proofs.pipeline.pipeline_text.Goals as goal

pub returns : goal.returns
returns g c = record {
  text = pictured c.args.config.now _ c.args.number c.args.count _ _ c.in_ok-excerpt.ensures.steps
      (omega (arith, c.signs_of.ensures, c.if-signs_of-gt-MOST_SIGNS.false)) c.in_ok-picture_of.ensures;
  refused = tt;
  no_step = (search rules);
}
