use Rattle.std.proofs.Common.{rules}
use Rattle.tomex_timing.proofs.waiting.parts_taken_by.Goals as goal

pub returns : goal.returns
returns c = search rules fits 100
