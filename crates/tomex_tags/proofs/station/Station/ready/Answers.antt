use Rattle.std.proofs.Common.{rules}
use Rattle.tomex_tags.proofs.station.Station.ready.Goals as goal

pub returns-then-is_there : goal.returns-then-is_there
returns-then-is_there c = search rules fits 100

pub returns-else-is_there : goal.returns-else-is_there
returns-else-is_there c = search rules fits 100
