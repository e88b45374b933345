-- The prices are those of the columns.
use Rattle.std.proofs.Common.{◌++◌, ap, List, ℕ, arith}
use Rattle.std.proofs.lemmas.Grind.{common_steps}
use Rattle.tomex_prices.proofs.CsvRecords.{records_are}
use Rattle.tomex_prices.proofs.records.with_row.Goals as goal

pub loop-column-init : goal.loop-column-init
loop-column-init g c =
    ap (λ (more : List ℕ). c.args.text ++ more) (records_are c.args.surveyed.now c.args.row c.requires.columns)

pub loop-column-preserved : goal.loop-column-preserved
loop-column-preserved = grind (arith, common_steps)

pub returns : goal.returns
returns = grind (arith, common_steps)
