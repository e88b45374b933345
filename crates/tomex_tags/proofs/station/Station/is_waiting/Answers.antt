use Rattle.std.proofs.Common.{rules}
use Rattle.tomex_tags.proofs.station.Station.is_waiting.Goals as goal

pub returns-else-not-is_memory : goal.returns-else-not-is_memory
returns-else-not-is_memory c = search rules fits 100
