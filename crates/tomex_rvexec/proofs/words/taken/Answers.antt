use Rattle.std.proofs.Common.{rules}
use Rattle.tomex_rvexec.proofs.words.taken.Goals as goal

pub returns-in-Bltu : goal.returns-in-Bltu
returns-in-Bltu c = search rules fits 100
