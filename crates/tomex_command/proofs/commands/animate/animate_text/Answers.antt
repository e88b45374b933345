-- The refusal of a page is the failure.
use Rattle.std.proofs.lemmas.Result.{err_from_is_err_and}
use Rattle.tomex_command.specs.Chosen.{choice_of}
use Rattle.tomex_command.proofs.Drawn.{unanimated}
use Rattle.tomex_command.proofs.commands.animate.animate_text.Goals as goal

pub returns-in_err-animation-clause-failure : goal.returns-in_err-animation-clause-failure
returns-in_err-animation-clause-failure g c =
    let p = err_from_is_err_and c.from_residual.result c.from_residual.ensures.1 in
    rw (p.1) (unanimated c.args.line (choice_of c.args.chosen.now) _ p.0 c.in_err-animation.ensures.refused p.2)
