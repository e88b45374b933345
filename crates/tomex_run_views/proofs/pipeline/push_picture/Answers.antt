-- The line with the cycles, and those of the steps after it.
use Rattle.std.proofs.Common.{◌∙◌, ap, arith}
use Rattle.std.proofs.lemmas.Grind.{common_steps}
use Rattle.std.proofs.lemmas.Result.{on_ok_weaker}
use Rattle.tomex_timing.specs.Search.{total_of}
use Rattle.tomex_run_views.specs.Chart.{first_issue}
use Rattle.tomex_run_views.proofs.Pictures.{drawn_is}
use Rattle.tomex_run_views.proofs.pipeline.push_picture.Goals as goal

pub returns : goal.returns
returns g c =
    on_ok_weaker c.push_lines.result (λ more.
    drawn_is c.args.excerpt.now.number _ _ c.args.excerpt.now.steps c.args.excerpt.now.times _ _ _ _
    c.in_ok-write.ensures.bytes (rw (c.number.ensures, c.steps.ensures, c.times-times.ensures) at more)
    (c.first_issue-first.ensures ∙ ap first_issue c.times-times.ensures)
    (c.total-last.ensures ∙ ap total_of c.times-times.ensures) c.in_ok-frame.ensures) c.push_lines.ensures

pub push_lines-requires-clause-pairs : goal.push_lines-requires-clause-pairs
push_lines-requires-clause-pairs = grind (arith, common_steps)
