-- Short searches, so that a wrong body is soon refused.
use Rattle.std.proofs.Common.{rules}
use Rattle.tomex_image.proofs.elf.refusals.is_within.Goals as goal

pub returns-then-base-address : goal.returns-then-base-address
returns-then-base-address c = search rules fits 100
