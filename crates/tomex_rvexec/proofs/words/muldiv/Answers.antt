use Rattle.std.proofs.Common.{rules}
use Rattle.tomex_rvexec.proofs.words.muldiv.Goals as goal

pub returns-then-b-eq0 : goal.returns-then-b-eq0
returns-then-b-eq0 c = search rules fits 100
