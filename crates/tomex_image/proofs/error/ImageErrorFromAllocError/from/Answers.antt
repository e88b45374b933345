-- Short searches, so that a wrong body is soon refused.
use Rattle.std.proofs.Common.{rules}
use Rattle.tomex_image.proofs.error.ImageErrorFromAllocError.from.Goals as goal

pub returns : goal.returns
returns c = search rules fits 100
