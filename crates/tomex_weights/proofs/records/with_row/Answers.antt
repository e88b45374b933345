-- The programs are those of the spans.
use Rattle.std.proofs.Common.{◌++◌, ap, List, ℕ, arith}
use Rattle.std.proofs.lemmas.Grind.{common_steps}
use Rattle.tomex_weights.proofs.TableRows.{records_are}
use Rattle.tomex_weights.proofs.records.with_row.Goals as goal

pub loop-spans-init : goal.loop-spans-init
loop-spans-init g c =
    ap (λ (more : List ℕ). c.args.text ++ more) (records_are c.args.surveyed.now c.args.row c.requires.all)

pub loop-spans-preserved : goal.loop-spans-preserved
loop-spans-preserved = grind (arith, common_steps)

pub returns : goal.returns
returns = grind (arith, common_steps)
