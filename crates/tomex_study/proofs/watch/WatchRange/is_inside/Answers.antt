use Rattle.std.proofs.Common.{rules}
use Rattle.tomex_study.proofs.watch.WatchRange.is_inside.Goals as goal

pub returns-then-base-self : goal.returns-then-base-self
returns-then-base-self c = search rules fits 100
