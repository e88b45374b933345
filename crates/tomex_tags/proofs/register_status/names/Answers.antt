use Rattle.std.proofs.Common.{rules}
use Rattle.tomex_tags.proofs.register_status.names.Goals as goal

pub returns-in-Some : goal.returns-in-Some
returns-in-Some c = search rules fits 100
