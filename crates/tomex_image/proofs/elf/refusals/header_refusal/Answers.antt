-- Short searches, so that a wrong body is soon refused.
use Rattle.std.proofs.Common.{rules}
use Rattle.tomex_image.proofs.elf.refusals.header_refusal.Goals as goal

pub returns-then-len-from : goal.returns-then-len-from
returns-then-len-from c = search rules fits 100

pub returns-then-segments-ge-MOST_SEGMENTS : goal.returns-then-segments-ge-MOST_SEGMENTS
returns-then-segments-ge-MOST_SEGMENTS c = search rules fits 100

pub returns-then-overlaps_any : goal.returns-then-overlaps_any
returns-then-overlaps_any c = search rules fits 100

pub returns-else-takes-3 : goal.returns-else-takes-3
returns-else-takes-3 c = search rules fits 100

pub returns-then-not-is_within : goal.returns-then-not-is_within
returns-then-not-is_within c = search rules fits 100
