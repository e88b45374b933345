-- The refusal of a picture, or of a log, is the failure.
use Rattle.std.proofs.lemmas.Result.{err_from_is_err_and}
use Rattle.tomex_command.specs.Chosen.{choice_of}
use Rattle.tomex_command.proofs.Drawn.{undrawn, unlogged}
use Rattle.tomex_command.proofs.commands.pipeline.pipeline_text.Goals as goal

pub returns-in_err-konata_text-clause-failure : goal.returns-in_err-konata_text-clause-failure
returns-in_err-konata_text-clause-failure g c =
    let p = err_from_is_err_and c.from_residual.result c.from_residual.ensures.1 in
    rw (p.1) (unlogged c.args.line (choice_of c.args.chosen.now) _ p.0
    (rw c.run-run.ensures.steps at c.in_err-konata_text.ensures.refused) p.2)

pub returns-in_err-pipeline_text-clause-failure : goal.returns-in_err-pipeline_text-clause-failure
returns-in_err-pipeline_text-clause-failure g c =
    let p = err_from_is_err_and c.from_residual-in_err-pipeline_text.result
    c.from_residual-in_err-pipeline_text.ensures.1 in
    rw (p.1) (undrawn c.args.line (choice_of c.args.chosen.now) _ p.0
    (rw c.run-run.ensures.steps at c.in_err-pipeline_text.ensures.refused) c.if-line.false p.2)
