-- Short searches, so that a wrong body is soon refused.
use Rattle.std.proofs.Common.{rules}
use Rattle.tomex_image.proofs.window.Window.base.Goals as goal

pub returns : goal.returns
returns c = search rules fits 100
