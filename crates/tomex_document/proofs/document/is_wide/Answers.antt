-- Closed at once: searching by rules first takes long.
use Rattle.std.proofs.Common.{arith}
use Rattle.tomex_document.proofs.document.is_wide.Goals as goal

pub returns-else-has_key : goal.returns-else-has_key
returns-else-has_key = grind arith

pub returns-then-has_key : goal.returns-then-has_key
returns-then-has_key = grind arith
