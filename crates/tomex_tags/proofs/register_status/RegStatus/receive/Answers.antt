use Rattle.std.proofs.Common.{rules}
use Rattle.tomex_tags.proofs.register_status.RegStatus.receive.Goals as goal

pub returns-then-names : goal.returns-then-names
returns-then-names c = search rules fits 100
