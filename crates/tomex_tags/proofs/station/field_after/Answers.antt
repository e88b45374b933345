use Rattle.std.proofs.Common.{rules}
use Rattle.tomex_tags.proofs.station.field_after.Goals as goal

pub returns-then-from-place : goal.returns-then-from-place
returns-then-from-place c = search rules fits 100
