use Rattle.std.proofs.Common.{rules}
use Rattle.tomex_tags.proofs.station.Station.busy_entry.Goals as goal

pub returns : goal.returns
returns c = search rules fits 100
