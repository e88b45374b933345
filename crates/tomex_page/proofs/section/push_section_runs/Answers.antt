-- One piece after the other.
use Rattle.std.proofs.lemmas.Result.{on_ok_weaker}
use Rattle.tomex_layout.proofs.Pieces.{◌▸◌, last_piece}
use Rattle.tomex_page.specs.Page.{section_runs}
use Rattle.tomex_page.proofs.section.push_section_runs.Goals as goal

pub returns-clause-text : goal.returns-clause-text
unfolding section_runs
returns-clause-text g c =
    on_ok_weaker c.write.result (λ last.
    (c.in_ok-push_str.ensures.bytes ▸ c.in_ok-push_runs.ensures.text ▸ last_piece last).is) c.write.ensures.bytes
