-- The longest texts, by the variant: a search would compare their letters.
use Rattle.std.proofs.Common.{ap, sym}
use Rattle.tomex_refusals.specs.Images.{advice_of}
use Rattle.tomex_refusals.proofs.images.ImageRefusal.advice.Goals as goal

pub returns-in-Segment : goal.returns-in-Segment
returns-in-Segment c = ap advice_of (sym c.in-Segment.is)

pub returns-in-Entry : goal.returns-in-Entry
returns-in-Entry c = ap advice_of (sym c.in-Entry.is)
