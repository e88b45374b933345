use Rattle.std.proofs.Common.{rules, arith}
use Rattle.std.proofs.lemmas.Grind.{common_steps}
use Rattle.tomex_study.proofs.watch.can_watch.Goals as goal

pub watched_bytes-requires : goal.watched_bytes-requires
watched_bytes-requires c = search rules fits 100

pub returns-then-all : goal.returns-then-all
returns-then-all c = grind (arith, common_steps)
