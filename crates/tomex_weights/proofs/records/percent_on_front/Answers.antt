-- Its number is a row's.
use Rattle.tomex_weights.proofs.SmallRows.{row_of}
use Rattle.tomex_weights.proofs.records.percent_on_front.Goals as goal

pub percent-requires : goal.percent-requires
percent-requires g c = (row_of c.args.surveyed.now c.args.row c.keeps_limits.ensures c.requires).within
