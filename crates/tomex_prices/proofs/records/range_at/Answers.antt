-- The row's interval stands at its place.
use Rattle.std.proofs.Common.{◌∙◌}
use Rattle.tomex_prices.proofs.CsvRecords.{stands_at}
use Rattle.tomex_prices.proofs.records.range_at.Goals as goal

pub at-requires : goal.at-requires
at-requires g c =
    (stands_at c.args.surveyed.now c.args.column.now c.args.place c.args.row c.requires.column c.requires.row).low

pub returns : goal.returns
returns g c =
    c.at.ensures
    ∙ (stands_at c.args.surveyed.now c.args.column.now c.args.place c.args.row c.requires.column c.requires.row).at _
