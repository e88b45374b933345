-- Parts are added in order.
use Rattle.tomex_archives.proofs.Joins.{parts-begin, parts-join}
use Rattle.tomex_archives.proofs.archive.parts_of.Goals as goal

pub loop-rest-init : goal.loop-rest-init
loop-rest-init c =
    parts-begin _ _ c.before_header.result.0.now _ c.before_header.ensures.whole c.new-parts.ensures.items

pub loop-rest-preserved : goal.loop-rest-preserved
loop-rest-preserved c =
    parts-join _ c.loop-rest.parts.items _ _ c.in-Some.part _ c.loop-rest.invariant c.in-Some.ensures.whole
    c.in_ok-push.ensures.items
