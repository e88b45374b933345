-- One piece after the other.
use Rattle.std.proofs.lemmas.Result.{on_ok_weaker}
use Rattle.tomex_layout.proofs.Pieces.{◌▸◌, last_piece}
use Rattle.tomex_page.specs.Page.{row_section}
use Rattle.tomex_page.proofs.section.push_section.Goals as goal

pub returns-clause-text : goal.returns-clause-text
unfolding row_section
returns-clause-text g c =
    on_ok_weaker c.push_section_runs.result (λ last.
    (c.in_ok-push_head.ensures ▸ c.in_ok-push_tables.ensures ▸ last_piece last).is)
    (rw (c.programs-programs.ensures.value, c.study.ensures) at c.push_section_runs.ensures.text)
