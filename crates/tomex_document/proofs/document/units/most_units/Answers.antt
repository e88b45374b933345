use Rattle.std.proofs.Common.{rules}
use Rattle.tomex_document.proofs.document.units.most_units.Goals as goal

pub returns-in-Bru : goal.returns-in-Bru
returns-in-Bru c = search rules fits 100
