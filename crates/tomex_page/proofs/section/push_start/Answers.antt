-- The start of the view, with its mark.
use Rattle.std.proofs.lemmas.Result.{on_ok_weaker}
use Rattle.tomex_page.specs.Page.{section_start}
use Rattle.tomex_page.proofs.section.push_start.Goals as goal

pub returns : goal.returns
unfolding section_start
returns g c = on_ok_weaker c.write.result (λ last. rw c.hull_mark-mark.ensures at last) c.write.ensures.bytes
