-- One piece after the other.
use Rattle.std.proofs.Common.{◌∙◌, ap}
use Rattle.std.proofs.lemmas.Result.{on_ok_weaker}
use Rattle.tomex_layout.proofs.Pieces.{◌▸◌, last_piece}
use Rattle.tomex_study.specs.Study.{DesignSpace}
use Rattle.tomex_page.specs.Page.{page_over}
use Rattle.tomex_page.proofs.page.push_page.Goals as goal

pub returns : goal.returns
unfolding page_over
returns g c =
    let prices = c.prices.ensures.value ∙ ap (λ (s : DesignSpace). s.prices) c.study.ensures in
    on_ok_weaker c.push_rest.result (λ last.
    (c.in_ok-push_start.ensures ▸ (rw prices at c.in_ok-push_asked_choices.ensures) ▸ last_piece last).is)
    c.push_rest.ensures
