use Rattle.std.proofs.Common.{rules}
use Rattle.tomex_tags.proofs.register_status.RegStatus.read.Goals as goal

pub returns-in-Some-tags : goal.returns-in-Some-tags
returns-in-Some-tags c = search rules fits 100
