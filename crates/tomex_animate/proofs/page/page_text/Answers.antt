-- One piece after the other.
use Rattle.std.proofs.Common.{ap}
use Rattle.tomex_animate.proofs.Pages.{page_is}
use Rattle.tomex_animate.proofs.page.page_text.Goals as goal

pub returns : goal.returns
returns g c =
    let views = c.args.views.now in
    page_is views.cells c.args.study.now c.args.program.now c.args.number views.config.now views.page views.total
    views.steps.now views.last.now views.path.now views.entries.now
    c.new-text.ensures.bytes c.in_ok-push_page_head.ensures c.in_ok-push_views.ensures
    c.in_ok-push_page_foot.ensures (ap (λ v. v.items) c.into_bytes.ensures.value)
