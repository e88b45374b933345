-- Short searches, so that a wrong body is soon refused.
use Rattle.std.proofs.Common.{rules}
use Rattle.tomex_image.proofs.image.Image.entry.Goals as goal

pub returns-clause-value : goal.returns-clause-value
returns-clause-value g c = search rules fits 100
