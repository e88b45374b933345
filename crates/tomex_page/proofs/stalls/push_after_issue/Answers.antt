-- One piece after the other.
use Rattle.std.proofs.lemmas.Result.{on_ok_weaker}
use Rattle.tomex_layout.proofs.Pieces.{◌▸◌, last_piece}
use Rattle.tomex_page.specs.Stalls.{after_issue}
use Rattle.tomex_page.proofs.stalls.push_after_issue.Goals as goal

pub returns : goal.returns
unfolding after_issue
returns g c =
    on_ok_weaker c.push_part.result (λ last.
    (c.in_ok-push_group.ensures ▸ c.in_ok-push_cause.ensures ▸ c.in_ok-push_cause-2.ensures
    ▸ c.in_ok-push_cause-3.ensures ▸ (rw c.unit_parts.ensures at c.in_ok-push_parts.ensures) ▸ last_piece last).is)
    c.push_part.ensures
