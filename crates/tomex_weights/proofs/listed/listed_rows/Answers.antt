-- The listed rows are numbered.
use Rattle.tomex_weights.proofs.Listing.{listed_numbered}
use Rattle.tomex_weights.proofs.listed.listed_rows.Goals as goal

pub sort_by_cost-requires : goal.sort_by_cost-requires
sort_by_cost-requires g c = listed_numbered c.args.surveyed.now c.in_ok-listed.ensures
