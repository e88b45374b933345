-- The row at the place of its number.
use Rattle.std.proofs.Common.{◌∙◌, ap, get_or, List}
use Rattle.tomex_pareto.specs.declared.front_row.FrontRow.{FrontRow}
use Rattle.tomex_study.proofs.Rows.{row_there}
use Rattle.tomex_study.proofs.surveyed.Surveyed.row.Goals as goal

pub returns : goal.returns
returns g c =
    let none : FrontRow = record { row = 0; cost = 0; cycles = 0 } in
    ap (λ (rs : List FrontRow). get_or rs c.args.number none) c.rows.ensures.value
    ∙ row_there c.args.self.now c.args.number none c.keeps_limits.ensures c.requires
